-- Pieces, and what they set.
use Rattle.std.proofs.Common.{◌≡◌, Bool, false, option_map, ℕ, ◌+◌, List, [], ◌∷◌, ◌++◌, length, get_or, Option, Some, None, Ok, Err, MatchOption, ◌⊎◌, inl, inr, refl, sym, ap, ◌∙◌, subst, zero, suc, append_assoc, add-one, arith}
use Rattle.std.proofs.Math.Seq.{get_or-append_seam}
use Rattle.std.proofs.lemmas.List.{length-append}
use Rattle.std.proofs.lemmas.Bool.{false≢true, cases_lt}
use Rattle.std.proofs.lemmas.Slice.Eq.{bytes_eq-Decides}
use Rattle.std.specs.Str.{bytes_eq}
use Rattle.std.specs.Option.{option_or}
use Rattle.std.proofs.lemmas.List.{append-nil}
use Rattle.std.proofs.lemmas.List.Elements.{All-append}
use Rattle.std.specs.List.{All}
use Rattle.std.specs.Str.{trim, str_to_ascii_lowercase}
use Rattle.cookie_core.specs.Record.{Record, plain, without_leading_dot}
use Rattle.jiff.specs.Words.{signed_nanos}
use Rattle.jiff.specs.declared.SignedDuration.{SignedDuration}
use Rattle.cookie_core.specs.Walk.{behind, before_rest, HasRead}
use Rattle.cookie_core.specs.declared.part.Part.{Part}
use Rattle.cookie_core.specs.declared.parse_error.ParseError.TheVariants as refusal
use mathlib.Core.Logic.{◌≢◌}
use Rattle.cookie_core.specs.Pieces.{Lacks, joined_pieces, IsPieces}
use Rattle.cookie_core.specs.Reads.{Reads}
use Rattle.cookie_core.specs.Attributes.{IsPair, IsAttribute, IsWord, Setting, field_at, word_of, GivesSetting, Skips, IsLastSet, SetsAttributes, nanos_of_seconds, max_age_seconds}
use Rattle.cookie_core.specs.Parts.{part_text}
use Rattle.cookie_core.specs.Spans.{span_text}
use Rattle.cookie_core.specs.declared.span.Span.{Span}
use Rattle.cookie_core.specs.Settings.{only, either, GivesNothing, IsSetting, SetsOneField}
use Rattle.cookie_core.specs.declared.attributes.Key.{Key}
use Rattle.cookie_core.specs.declared.attributes.Key.TheVariants as key

pub Lacks-tail : (c x : ℕ) (xs : List ℕ) → Lacks c (x ∷ xs) → Lacks c xs
Lacks-tail c x xs h i lt e = h (i + 1) (omega arith) (rw add-one e)

pub Lacks-more : (c x : ℕ) (xs : List ℕ) → x ≢ c → Lacks c xs → Lacks c (x ∷ xs)
Lacks-more c x xs h l zero lt e = h e
Lacks-more c x xs h l (suc i) lt e = l i (omega arith) e

-- the first `c` is in one place
pub cut_unique : (c : ℕ) (a b a' b' : List ℕ) → Lacks c a → Lacks c a' → a ++ c ∷ b ≡ a' ++ c ∷ b' → (a ≡ a') × (b ≡ b')
cut_unique c [] b [] b' h h' e = (refl, cc)
cut_unique c [] b (x ∷ xs) b' h h' e = let q : x ≡ c = cc in absurd (h' 0 (omega arith) q)
cut_unique c (x ∷ xs) b [] b' h h' e = let q : x ≡ c = cc in absurd (h 0 (omega arith) q)
cut_unique c (x ∷ xs) b (y ∷ ys) b' h h' e =
    let q : xs ++ c ∷ b ≡ ys ++ c ∷ b' = cc in
    let r = cut_unique c xs b ys b' (Lacks-tail c x xs h) (Lacks-tail c y ys h') q in
    let z : x ≡ y = cc in
    (rw (z, r.0) refl, r.1)

pub not_lacking : (c : ℕ) (p a b : List ℕ) → p ≡ a ++ c ∷ b → ¬ (Lacks c p)
not_lacking c p a b e h =
    h (length a) (omega (arith, ap length e, length-append a (c ∷ b))) (ap (λ s. get_or s (length a) 0) e ∙ get_or-append_seam a c b 0)

pub IsAttribute-unique : (p k : List ℕ) (v : Option (List ℕ)) (k' : List ℕ) (v' : Option (List ℕ)) → IsAttribute p k v → IsAttribute p k' v' → (k ≡ k') × (v ≡ v')
IsAttribute-unique p k None k' None (_, e) (_, f) = (e ∙ sym f, refl)
IsAttribute-unique p k None k' (Some v') (h, _) (a, b, e, _, _, _) = absurd (not_lacking 61 p a b e h)
IsAttribute-unique p k (Some v) k' None (a, b, e, _, _, _) (h, _) = absurd (not_lacking 61 p a b e h)
IsAttribute-unique p k (Some v) k' (Some v') (a, b, e, l, n, m) (a', b', e', l', n', m') =
    let u = cut_unique 61 a b a' b' l l' (sym e ∙ e') in
    (n ∙ ap trim u.0 ∙ sym n', ap Some (m ∙ ap trim u.1 ∙ sym m'))

-- two words differ where a test of them fails
differ : {w w' : List ℕ} → w ≡ w' → bytes_eq w w' ≡ false → ⊥
differ {w} {w'} e f = false≢true (sym f ∙ (bytes_eq-Decides w w').1 e)

-- a piece with one key does not set the field of another key
Skips-other : (p t : List ℕ) (v : Option (List ℕ)) (k : Key) → IsAttribute p t v → ¬ (IsWord t (word_of k)) → Skips k p
Skips-other p t v k att other x (t', v', att', is, _) =
    other (ap str_to_ascii_lowercase (IsAttribute-unique p t v t' v' att att').0 ∙ is)

-- nor that of its own, where its value gives nothing
Skips-own : (p t : List ℕ) (v : Option (List ℕ)) (k : Key) → IsAttribute p t v → GivesNothing k v → Skips k p
Skips-own p t v k att none x (t', v', att', is, gives) =
    none x (subst (λ (q : Option (List ℕ)). GivesSetting k q x) (sym (IsAttribute-unique p t v t' v' att att').1) gives)

-- ---- what an attribute gives

field_at-only : (k : Key) (o : Option (Setting k)) → field_at k (only k o) ≡ o
field_at-only key.HttpOnly o = refl
field_at-only _ o = refl

-- the field of the key is set, and no other
pub SetsOneField-only : (k : Key) (v : Option (List ℕ)) (o : Option (Setting k)) → IsSetting k v o → SetsOneField k v (only k o)
SetsOneField-only k v o h =
    record { field = subst (IsSetting k v) (sym (field_at-only k o)) h; alone = ap (only k) (sym (field_at-only k o)) }

-- a flag is set, whatever its value
pub SetsOneField-flag : (k : Key) (v : Option (List ℕ)) (r : Record) → (k ≡ key.HttpOnly) ⊎ ((k ≡ key.Secure) ⊎ (k ≡ key.Partitioned)) → SetsOneField k None r → SetsOneField k v r
SetsOneField-flag key.HttpOnly v r is h = record { field = h.field; alone = h.alone }
SetsOneField-flag key.Secure v r is h = record { field = h.field; alone = h.alone }
SetsOneField-flag key.Partitioned v r is h = record { field = h.field; alone = h.alone }
SetsOneField-flag _ v r is h = elim is [ inl e ↦ cc | inr (inl e) ↦ cc | inr (inr e) ↦ cc ]

-- all other attributes set nothing without a value
pub SetsOneField-none : (k : Key) → (k ≡ key.SameSite) ⊎ ((k ≡ key.Path) ⊎ ((k ≡ key.Domain) ⊎ ((k ≡ key.MaxAge) ⊎ (k ≡ key.Expires)))) → SetsOneField k None (plain [] [])
SetsOneField-none k (inl is) = rw is (SetsOneField-only key.SameSite None None (λ x h. h))
SetsOneField-none k (inr (inl is)) = rw is (SetsOneField-only key.Path None None (λ x h. h))
SetsOneField-none k (inr (inr (inl is))) = rw is (SetsOneField-only key.Domain None None (λ x h. h))
SetsOneField-none k (inr (inr (inr (inl is)))) = rw is (SetsOneField-only key.MaxAge None None (λ x h. h))
SetsOneField-none k (inr (inr (inr (inr is)))) = rw is (SetsOneField-only key.Expires None None (λ x h. h))

pub undotted-field : (v : Part) (o : Option Span) → MatchOption o (part_text v ≡ []) (λ p. (p ≡ v.span) × (part_text v ≢ [])) → IsSetting key.Domain (Some (part_text v)) (option_map without_leading_dot (option_map (span_text v.whole.now) o))
undotted-field v None e = λ x h. h.0 e
undotted-field v (Some p) h = (h.1, ap (λ (q : Span). without_leading_dot (span_text v.whole.now q)) h.0)

pub age-field : (t : List ℕ) (o : Option SignedDuration) → option_map signed_nanos o ≡ option_map nanos_of_seconds (max_age_seconds t) → IsSetting key.MaxAge (Some t) (option_map signed_nanos o)
age-field t None e = λ x h. cc
age-field t (Some d) e = sym e

All-none : {X : Type 0} (P : X → Type 0) → All P []
All-none P k d lt = absurd (omega arith)

All-one : {X : Type 0} (P : X → Type 0) (x : X) → P x → All P (x ∷ [])
All-one P x h zero d lt = h
All-one P x h (suc k) d lt = absurd (omega arith)

pub All-push : {X : Type 0} (P : X → Type 0) (xs : List X) (x : X) → All P xs → P x → All P (xs ++ x ∷ [])
All-push P xs x h q = All-append P xs (x ∷ []) h (All-one P x q)

-- a setting counts whatever stands before it
pub IsLastSet-behind : (k : Key) (ps qs : List (List ℕ)) (x : Setting k) → IsLastSet k qs (Some x) → IsLastSet k (ps ++ qs) (Some x)
IsLastSet-behind k ps qs x (before, q, after, e, s, none) =
    (ps ++ before, q, after, rw e (sym (append_assoc ps before (q ∷ after))), s, none)

-- what the later pieces set, or else what the pieces before them set
pub IsLastSet-or : (k : Key) (ps qs : List (List ℕ)) (o o' : Option (Setting k)) → IsLastSet k ps o → IsLastSet k qs o' → IsLastSet k (ps ++ qs) (option_or o' o)
IsLastSet-or k ps qs None None h h' = All-append (Skips k) ps qs h h'
IsLastSet-or k ps qs (Some x) None (before, q, after, e, s, none) h' =
    (before, q, after ++ qs, rw e (append_assoc before (q ∷ after) qs), s, All-append (Skips k) after qs none h')
IsLastSet-or k ps qs o (Some x) h h' = IsLastSet-behind k ps qs x h'

-- what one piece sets
IsLastSet-one : (p t : List ℕ) (v : Option (List ℕ)) (k : Key) (o : Option (Setting k)) → IsAttribute p t v → IsWord t (word_of k) → IsSetting k v o → IsLastSet k (p ∷ []) o
IsLastSet-one p t v k None att is h = All-one (Skips k) p (Skips-own p t v k att h)
IsLastSet-one p t v k (Some x) att is h = ([], p, [], refl, (t, v, att, is, h), All-none (Skips k))

IsLastSet-other : (p t : List ℕ) (v : Option (List ℕ)) (k k' : Key) → IsAttribute p t v → IsWord t (word_of k) → bytes_eq (word_of k) (word_of k') ≡ false → IsLastSet k' (p ∷ []) None
IsLastSet-other p t v k k' att is ne =
    All-one (Skips k') p (Skips-other p t v k' att (λ is'. differ (sym is ∙ is') ne))

-- the field of the key k' after a piece with the key k
field-one : (p t : List ℕ) (v : Option (List ℕ)) (k k' : Key) (o : Option (Setting k)) → IsAttribute p t v → IsWord t (word_of k) → IsSetting k v o → IsLastSet k' (p ∷ []) (field_at k' (only k o))
field-one p t v key.HttpOnly key.HttpOnly o att is h = IsLastSet-one p t v key.HttpOnly o att is h
field-one p t v key.Secure key.Secure o att is h = IsLastSet-one p t v key.Secure o att is h
field-one p t v key.Partitioned key.Partitioned o att is h = IsLastSet-one p t v key.Partitioned o att is h
field-one p t v key.SameSite key.SameSite o att is h = IsLastSet-one p t v key.SameSite o att is h
field-one p t v key.Path key.Path o att is h = IsLastSet-one p t v key.Path o att is h
field-one p t v key.Domain key.Domain o att is h = IsLastSet-one p t v key.Domain o att is h
field-one p t v key.MaxAge key.MaxAge o att is h = IsLastSet-one p t v key.MaxAge o att is h
field-one p t v key.Expires key.Expires o att is h = IsLastSet-one p t v key.Expires o att is h
field-one p t v k k' o att is h = IsLastSet-other p t v k k' att is refl

-- pieces that set no field leave each unset
SetsAttributes-unset : (ps : List (List ℕ)) → ((k : Key) → All (Skips k) ps) → SetsAttributes ps (plain [] [])
SetsAttributes-unset ps h = record { each = each }
  where
    each : (k : Key) → IsLastSet k ps (field_at k (plain [] []))
    each key.HttpOnly = h key.HttpOnly
    each k = h k

pub SetsAttributes-none : SetsAttributes [] (plain [] [])
SetsAttributes-none = SetsAttributes-unset [] (λ k. All-none (Skips k))

pub SetsAttributes-no_key : (p t : List ℕ) (v : Option (List ℕ)) → IsAttribute p t v → ((k : Key) → ¬ (IsWord t (word_of k))) → SetsAttributes (p ∷ []) (plain [] [])
SetsAttributes-no_key p t v att none =
    SetsAttributes-unset (p ∷ []) (λ k. All-one (Skips k) p (Skips-other p t v k att (none k)))

pub SetsAttributes-given : (p t : List ℕ) (v : Option (List ℕ)) (k : Key) (r : Record) → IsAttribute p t v → IsWord t (word_of k) → SetsOneField k v r → SetsAttributes (p ∷ []) r
SetsAttributes-given p t v k r att is h =
    rw h.alone (record { each = λ k'. field-one p t v k k' (field_at k r) att is h.field })

pub SetsAttributes-or : (ps qs : List (List ℕ)) (r r' : Record) → SetsAttributes ps r → SetsAttributes qs r' → SetsAttributes (ps ++ qs) (either r' r)
SetsAttributes-or ps qs r r' a a' = record { each = each }
  where
    each : (k : Key) → IsLastSet k (ps ++ qs) (field_at k (either r' r))
    each key.HttpOnly = IsLastSet-or key.HttpOnly ps qs r.http_only r'.http_only (a.each key.HttpOnly) (a'.each key.HttpOnly)
    each k = IsLastSet-or k ps qs (field_at k r) (field_at k r') (a.each k) (a'.each k)

-- ---- the pieces of a text

pub before_rest-push : (ps : List (List ℕ)) (p : List ℕ) (o : Option (List ℕ)) → before_rest (ps ++ p ∷ []) o ≡ before_rest ps (Some (p ++ behind o))
before_rest-push [] p o = refl
before_rest-push (q ∷ ps) p o = ap (λ t. Some (q ++ behind t)) (before_rest-push ps p o)

joined-before_rest : (p : List ℕ) (ps : List (List ℕ)) → joined_pieces 59 p ps ≡ p ++ behind (before_rest ps None)
joined-before_rest p [] = sym (append-nil p)
joined-before_rest p (q ∷ qs) = ap (λ t. p ++ 59 ∷ t) (joined-before_rest q qs)

pub HasRead-none : (all : Option (List ℕ)) → HasRead all (plain [] []) all
HasRead-none all =
    record { pieces = []; whole = refl; apart = All-none (Lacks 59); sets = SetsAttributes-none }

HasRead-piece : (all : Option (List ℕ)) (r r' : Record) (t p : List ℕ) (o : Option (List ℕ)) → (h : HasRead all r (Some t)) → t ≡ p ++ behind o → Lacks 59 p → SetsAttributes (h.pieces ++ p ∷ []) r' → HasRead all r' o
HasRead-piece all r r' t p o h e l s =
    record {
      pieces = h.pieces ++ p ∷ [];
      whole = h.whole ∙ ap (λ u. before_rest h.pieces (Some u)) e ∙ sym (before_rest-push h.pieces p o);
      apart = All-push (Lacks 59) h.pieces p h.apart l;
      sets = s;
    }

pub HasRead-or : (all : Option (List ℕ)) (r r' : Record) (t p : List ℕ) (o : Option (List ℕ)) → HasRead all r (Some t) → t ≡ p ++ behind o → Lacks 59 p → SetsAttributes (p ∷ []) r' → HasRead all (either r' r) o
HasRead-or all r r' t p o h e l q =
    HasRead-piece all r (either r' r) t p o h e l (SetsAttributes-or h.pieces (p ∷ []) r r' h.sets q)

pub IsPieces-read : (t p : List ℕ) (o : Option (List ℕ)) (r : Record) → t ≡ p ++ behind o → Lacks 59 p → (h : HasRead o r None) → IsPieces t p h.pieces
IsPieces-read t p o r e l h =
    record {
      joined = e ∙ ap (λ u. p ++ behind u) h.whole ∙ sym (joined-before_rest p h.pieces);
      first = l;
      later = h.apart;
    }

-- every text has pieces
pub pieces_of : (t : List ℕ) → (p : List ℕ) × (ps : List (List ℕ)) × (t ≡ p ++ behind (before_rest ps None)) × Lacks 59 p × All (Lacks 59) ps
pieces_of [] = ([], [], refl, (λ i lt. absurd (omega arith)), All-none (Lacks 59))
pieces_of (c ∷ cs) =
    let q = pieces_of cs in
    elim (cases_lt c 59) [
      | inl lt ↦ (c ∷ q.0, q.1, ap (λ t. c ∷ t) q.2, Lacks-more 59 c q.0 (λ e. omega arith) q.3, q.4)
      | inr ge ↦ elim (cases_lt 59 c) [
        | inl gt ↦ (c ∷ q.0, q.1, ap (λ t. c ∷ t) q.2, Lacks-more 59 c q.0 (λ e. omega arith) q.3, q.4)
        | inr le ↦ let e : c ≡ 59 = omega arith in
            ([], q.0 ∷ q.1, rw e (ap (λ t. 59 ∷ t) q.2), (λ i lt. absurd (omega arith)), All-append (Lacks 59) (q.0 ∷ []) q.1 (All-one (Lacks 59) q.0 q.3) q.4)
      ]
    ]

rest_pieces : (o : Option (List ℕ)) → (ps : List (List ℕ)) × (o ≡ before_rest ps None) × All (Lacks 59) ps
rest_pieces None = ([], refl, All-none (Lacks 59))
rest_pieces (Some t) =
    let q = pieces_of t in
    (q.0 ∷ q.1, ap Some q.2, All-append (Lacks 59) (q.0 ∷ []) q.1 (All-one (Lacks 59) q.0 q.3) q.4)

-- what a cut leaves
pub behind-cut : (t p : List ℕ) (o : Option Part) → MatchOption o (p ≡ t) (λ after. t ≡ p ++ 59 ∷ part_text after) → t ≡ p ++ behind (option_map part_text o)
behind-cut t p None e = sym (append-nil p ∙ e)
behind-cut t p (Some a) e = e

pub first_piece : (t p : List ℕ) (o : Option (List ℕ)) → t ≡ p ++ behind o → Lacks 59 p → (ps : List (List ℕ)) → o ≡ before_rest ps None → All (Lacks 59) ps → IsPieces t p ps
first_piece t p o e l ps f a =
    record { joined = e ∙ ap (λ u. p ++ behind u) f ∙ sym (joined-before_rest p ps); first = l; later = a }

pub Reads-no_pair : (t p : List ℕ) (o : Option (List ℕ)) → t ≡ p ++ behind o → Lacks 59 p → Lacks 61 p → (decode : Bool) → Reads decode t (Err refusal.MissingPair)
Reads-no_pair t p o e l h decode =
    let q = rest_pieces o in (p, q.0, first_piece t p o e l q.0 q.1 q.2, h)

pub Reads-empty_name : (t p v : List ℕ) (o : Option (List ℕ)) → t ≡ p ++ behind o → Lacks 59 p → IsPair p [] v → (decode : Bool) → Reads decode t (Err refusal.EmptyName)
Reads-empty_name t p v o e l h decode =
    let q = rest_pieces o in (p, q.0, first_piece t p o e l q.0 q.1 q.2, (v, h))

pub SetsAttributes-named : (ps : List (List ℕ)) (r : Record) (n v : List ℕ) → SetsAttributes ps r → SetsAttributes ps (record r { name = n; value = v })
SetsAttributes-named ps r n v a = record { each = each }
  where
    each : (k : Key) → IsLastSet k ps (field_at k (record r { name = n; value = v }))
    each key.HttpOnly = a.each key.HttpOnly
    each k = a.each k

pub Reads-record : (t p n v : List ℕ) (o : Option (List ℕ)) (r : Record) → t ≡ p ++ behind o → Lacks 59 p → IsPair p n v → n ≢ [] → HasRead o r None → Reads false t (Ok (record r { name = n; value = v }))
Reads-record t p n v o r e l h m a =
    (p, a.pieces, IsPieces-read t p o r e l a, (n, v, h, m, refl, refl, SetsAttributes-named a.pieces r n v a.sets))

All-tail : {X : Type 0} (P : X → Type 0) (x : X) (xs : List X) → All P (x ∷ xs) → All P xs
All-tail P x xs h k d lt = h (suc k) d (omega arith)

pub tail_pieces : (t p q : List ℕ) (qs : List (List ℕ)) → IsPieces t p (q ∷ qs) → IsPieces (joined_pieces 59 q qs) q qs
tail_pieces t p q qs h =
    record { joined = refl; first = h.later 0 q (omega arith); later = All-tail (Lacks 59) q qs h.later }

-- a text has one list of pieces
pub IsPieces-unique : (t p : List ℕ) (ps : List (List ℕ)) (q : List ℕ) (qs : List (List ℕ)) → IsPieces t p ps → IsPieces t q qs → (p ≡ q) × (ps ≡ qs)
IsPieces-unique t p [] q [] h k = (sym h.joined ∙ k.joined, refl)
IsPieces-unique t p [] q (r ∷ rs) h k = absurd (not_lacking 59 p q (joined_pieces 59 r rs) (sym h.joined ∙ k.joined) h.first)
IsPieces-unique t p (r ∷ rs) q [] h k = absurd (not_lacking 59 q p (joined_pieces 59 r rs) (sym k.joined ∙ h.joined) k.first)
IsPieces-unique t p (r ∷ rs) q (u ∷ us) h k =
    let c = cut_unique 59 p (joined_pieces 59 r rs) q (joined_pieces 59 u us) h.first k.first (sym h.joined ∙ k.joined) in
    let m : IsPieces (joined_pieces 59 r rs) u us = rw c.1 (tail_pieces t q u us k) in
    let i = IsPieces-unique (joined_pieces 59 r rs) r rs u us (tail_pieces t p r rs h) m in
    (c.0, rw (i.0, i.1) refl)

-- every text has a list of pieces
pub IsPieces-some : (t : List ℕ) → (p : List ℕ) × (ps : List (List ℕ)) × IsPieces t p ps
IsPieces-some t =
    let (p, ps, whole, first, later) = pieces_of t in
    (p, ps, first_piece t p (before_rest ps None) whole first ps refl later)
