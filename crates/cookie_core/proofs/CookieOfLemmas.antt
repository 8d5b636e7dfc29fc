-- The function of a text that says what it is read as agrees with `Reads` (RFC 6265 5.2).
use Rattle.std.proofs.Common.{◌≡◌, ◌↔◌, ◌⊎◌, ◌==◌, cond, Bool, true, false, ℕ, ◌<◌, List, [], ◌∷◌, ◌++◌, length, Option, Some, None, Ok, Err, Result, option_map, inl, inr, refl, sym, ap, ◌∙◌, subst, arith}
use Rattle.std.proofs.lemmas.Bool.{false≢true, cases_lt}
use Rattle.std.proofs.lemmas.Bool.Decides.{Decides-eqb}
use Rattle.std.proofs.lemmas.List.{take_all}
use Rattle.std.proofs.lemmas.List.Elements.{All-nil, All-cons, All-head, All-tail, All-from_get_or}
use Rattle.std.proofs.lemmas.List.Folds.{list_any_at, list_any_none}
use Rattle.std.proofs.lemmas.List.Sums.{split_at_first, fails_before_first, passes_at_first}
use Rattle.std.proofs.lemmas.Option.{none-some, same_Some}
use Rattle.std.proofs.lemmas.Slice.Eq.{bytes_eq-Decides}
use Rattle.std.proofs.lemmas.Str.{is_utf8-from_IsUtf8, IsUtf8-from_is_utf8}
use Rattle.std.specs.List.{All, before_first, after_first, list_any, position_or_len, find, filter_map}
use Rattle.std.specs.Option.{option_or, option_and_then}
use Rattle.std.specs.Result.{result_ok}
use Rattle.std.specs.Str.{IsUtf8, trim, bytes_eq, str_to_ascii_lowercase, is_utf8}
use mathlib.Core.Logic.{◌≢◌}
use Rattle.jiff.specs.Types.{DateTime}
use Rattle.cookie_date.specs.Moments.{date_of}
use Rattle.cookie_date.proofs.DateLemmas.{date_of-is}
use Rattle.cookie_date.proofs.OptionLemmas.{through}
use Rattle.cookie_core.specs.Attributes.{IsPair, IsAttribute, Setting, field_at, record_of, word_of, same_site_key, GivesExpiry, GivesSetting, Sets, Skips, IsLastSet, SetsAttributes}
use Rattle.cookie_core.specs.CookieOf.{key_text, value_text, unless_empty, same_site_named, setting_of, setting_in, last_set, record_in, decoded_text, cookie_in, cookie_of, header_cookies}
use Rattle.cookie_core.specs.Escapes.{unescape}
use Rattle.cookie_core.specs.Header.{kept_texts, IsHeaderTexts}
use Rattle.cookie_core.specs.Pieces.{IsPieces}
use Rattle.cookie_core.specs.Reads.{IsDecoded, IsUndecodable, ReadsPieces, Reads}
use Rattle.cookie_core.specs.Record.{Record}
use Rattle.cookie_core.specs.declared.attributes.Key.{Key}
use Rattle.cookie_core.specs.declared.attributes.Key.TheVariants as key
use Rattle.cookie_core.specs.declared.same_site.SameSite.{SameSite}
use Rattle.cookie_core.specs.declared.same_site.SameSite.TheVariants as same_site_of
use Rattle.cookie_core.specs.declared.expiration.Expiration.{Expiration}
use Rattle.cookie_core.specs.declared.expiration.Expiration.TheVariants as expiration
use Rattle.cookie_core.specs.declared.parse_error.ParseError.{ParseError}
use Rattle.cookie_core.specs.declared.parse_error.ParseError.TheVariants as refusal
use Rattle.cookie_core.proofs.PieceLemmas.{IsPieces-pieces}
use Rattle.cookie_core.proofs.SpanLemmas.{Lacks-front}
use Rattle.cookie_core.proofs.ReadingLemmas.{not_lacking, IsAttribute-unique, IsPieces-unique, IsPieces-some}

-- ---- options

cond-some : {X : Type 0} (b : Bool) (o : Option X) (x : X) → cond b o None ≡ Some x → (b ≡ true) × (o ≡ Some x)
cond-some true o x e = (refl, e)
cond-some false o x e = absurd (none-some x e)

onward : {A B : Type 0} (f : A → Option B) (o : Option A) (x : A) (y : B) → o ≡ Some x → f x ≡ Some y → option_and_then f o ≡ Some y
onward f o x y e h = rw e h

unless-some : {X : Type 0} (o : Option X) → ((x : X) → o ≢ Some x) → o ≡ None
unless-some None h = refl
unless-some (Some x) h = absurd (h x refl)

-- ---- the key and the value of a piece

differs : (c b : ℕ) → (b == c) ≡ false → b ≢ c
differs c b e h = false≢true (sym e ∙ (Decides-eqb b c).1 h)

-- the byte is `=`
abbrev is_mark : ℕ → Bool
is_mark b = b == 61

-- the key and the value of a piece are those of `key_text` and `value_text`
pub IsAttribute-texts : (p : List ℕ) → IsAttribute p (key_text p) (value_text p)
IsAttribute-texts p =
    elim (cases_lt (position_or_len is_mark p) (length p)) [
      | inl lt ↦
          let here = passes_at_first is_mark p 0 lt in
          let found : list_any is_mark p ≡ true = list_any_at is_mark p _ 0 lt here in
          let whole = split_at_first is_mark p 0 lt ∙ ap (λ c. before_first is_mark p ++ c ∷ after_first is_mark p) ((Decides-eqb _ 61).0 here) in
          let front = Lacks-front 61 p _ (before_first is_mark p) refl (λ i below. differs 61 _ (fails_before_first is_mark p i 0 below)) in
          rw found (before_first is_mark p, after_first is_mark p, whole, front, refl, refl)
      | inr ge ↦
          let fails = λ (i : ℕ) (lt : i < length p). fails_before_first is_mark p i 0 (omega arith) in
          let none : list_any is_mark p ≡ false = list_any_none is_mark p (All-from_get_or (λ b. is_mark b ≡ false) p 0 fails) in
          rw none ((λ i lt. differs 61 _ (fails i lt)), ap trim (take_all _ p ge))
    ]

-- ---- what one piece sets

flag : (x : Bool) → (Some true ≡ Some x) ↔ (x ≡ true)
flag x = (λ e. sym (same_Some _ _ e), λ e. ap Some (sym e))

same_site-found : (b b' b'' : Bool) (x y z w : SameSite) → cond b (Some x) (cond b' (Some y) (cond b'' (Some z) None)) ≡ Some w → ((b ≡ true) × (x ≡ w)) ⊎ (((b' ≡ true) × (y ≡ w)) ⊎ ((b'' ≡ true) × (z ≡ w)))
same_site-found true b' b'' x y z w e = inl (refl, same_Some _ _ e)
same_site-found false true b'' x y z w e = inr (inl (refl, same_Some _ _ e))
same_site-found false false true x y z w e = inr (inr (refl, same_Some _ _ e))
same_site-found false false false x y z w e = absurd (none-some w e)

same_site-sound : (v : List ℕ) (x : SameSite) → same_site_named v ≡ Some x → str_to_ascii_lowercase v ≡ same_site_key x
same_site-sound v x e =
    elim (same_site-found _ _ _ same_site_of.Strict same_site_of.Lax same_site_of.None x e) [
      | inl h ↦ (bytes_eq-Decides _ _).0 h.0 ∙ ap same_site_key h.1
      | inr (inl h) ↦ (bytes_eq-Decides _ _).0 h.0 ∙ ap same_site_key h.1
      | inr (inr h) ↦ (bytes_eq-Decides _ _).0 h.0 ∙ ap same_site_key h.1
    ]

-- the rule whose name is the word
abbrev rule_of : List ℕ → Option SameSite
rule_of w = find (λ s. bytes_eq w (same_site_key s)) (same_site_of.Strict ∷ same_site_of.Lax ∷ same_site_of.None ∷ [])

same_site-complete : (v : List ℕ) (x : SameSite) → str_to_ascii_lowercase v ≡ same_site_key x → same_site_named v ≡ Some x
same_site-complete v same_site_of.Strict e = ap rule_of e
same_site-complete v same_site_of.Lax e = ap rule_of e
same_site-complete v same_site_of.None e = ap rule_of e

expiry-sound : (v : List ℕ) (o : Option DateTime) (x : Expiration) → date_of v ≡ o → option_map (λ m. expiration.DateTime m) o ≡ Some x → GivesExpiry v x
expiry-sound v None x is e = absurd (none-some x e)
expiry-sound v (Some m) x is e = subst (GivesExpiry v) (same_Some _ x e) ((date_of-is v m).0 is)

expiry-complete : (v : List ℕ) (x : Expiration) → GivesExpiry v x → option_map (λ m. expiration.DateTime m) (date_of v) ≡ Some x
expiry-complete v (expiration.DateTime m) h = ap (option_map (λ m. expiration.DateTime m)) ((date_of-is v m).1 h)
expiry-complete v expiration.Session h = absurd h

-- `setting_of` is exactly the setting that an attribute gives
setting_of-is : (k : Key) (v : Option (List ℕ)) (x : Setting k) → (setting_of k v ≡ Some x) ↔ GivesSetting k v x
setting_of-is key.HttpOnly v x = flag x
setting_of-is key.Secure v x = flag x
setting_of-is key.Partitioned v x = flag x
setting_of-is key.SameSite (Some v) x = (same_site-sound v x, same_site-complete v x)
setting_of-is key.Path (Some v) x = (same_Some v x, ap Some)
setting_of-is key.Domain (Some []) x = (λ e. absurd (none-some x e), λ h. absurd (h.0 refl))
setting_of-is key.Domain (Some (c ∷ cs)) x = (λ e. ((λ n. cc), sym (same_Some _ _ e)), λ h. ap Some (sym h.1))
setting_of-is key.MaxAge (Some v) x = (λ e. e, λ e. e)
setting_of-is key.Expires (Some v) x = (expiry-sound v (date_of v) x refl, expiry-complete v x)
setting_of-is _ None x = (none-some x, absurd)

-- `setting_in` is exactly what a piece sets the field to
setting_in-Sets : (k : Key) (p : List ℕ) (x : Setting k) → (setting_in k p ≡ Some x) ↔ Sets p k x
setting_in-Sets k p x = (sound, complete)
  where
    sound : setting_in k p ≡ Some x → Sets p k x
    sound e =
        let (named, gives) = cond-some _ (setting_of k (value_text p)) x e in
        (key_text p, value_text p, IsAttribute-texts p, (bytes_eq-Decides _ (word_of k)).0 named, (setting_of-is k (value_text p) x).0 gives)

    complete : Sets p k x → setting_in k p ≡ Some x
    complete (t, v, is, named, gives) =
        let (same_key, same_value) = IsAttribute-unique p t v (key_text p) (value_text p) is (IsAttribute-texts p) in
        let test : bytes_eq (str_to_ascii_lowercase (key_text p)) (word_of k) ≡ true = (bytes_eq-Decides _ (word_of k)).1 (ap str_to_ascii_lowercase (sym same_key) ∙ named) in
        ap (λ b. cond b (setting_of k (value_text p)) None) test ∙ (setting_of-is k (value_text p) x).1 (subst (λ w. GivesSetting k w x) same_value gives)

-- ---- what the last piece sets

last_set-none : (k : Key) (ps : List (List ℕ)) → All (Skips k) ps → last_set k ps ≡ None
last_set-none k [] h = refl
last_set-none k (p ∷ ps) h =
    let later = last_set-none k ps (All-tail (Skips k) p ps h) in
    let here = unless-some (setting_in k p) (λ x e. All-head (Skips k) p ps h x ((setting_in-Sets k p x).0 e)) in
    rw (later, here) refl

last_set-some : (k : Key) (before : List (List ℕ)) (p : List ℕ) (after : List (List ℕ)) (x : Setting k) → Sets p k x → All (Skips k) after → last_set k (before ++ p ∷ after) ≡ Some x
last_set-some k [] p after x s none = rw (last_set-none k after none) ((setting_in-Sets k p x).1 s)
last_set-some k (q ∷ before) p after x s none = rw (last_set-some k before p after x s none) refl

IsLastSet-more : (k : Key) (p : List ℕ) (ps : List (List ℕ)) (o o' : Option (Setting k)) → setting_in k p ≡ o' → IsLastSet k ps o → IsLastSet k (p ∷ ps) (option_or o o')
IsLastSet-more k p ps (Some x) o' e (before, q, after, whole, s, none) = (p ∷ before, q, after, ap (λ qs. p ∷ qs) whole, s, none)
IsLastSet-more k p ps None (Some x) e h = ([], p, ps, refl, (setting_in-Sets k p x).0 e, h)
IsLastSet-more k p ps None None e h = All-cons (Skips k) p ps (λ x s. none-some x (sym e ∙ (setting_in-Sets k p x).1 s)) h

-- the last setting is `last_set`, and no other
IsLastSet-last_set : (k : Key) (ps : List (List ℕ)) → IsLastSet k ps (last_set k ps)
IsLastSet-last_set k [] = All-nil (Skips k)
IsLastSet-last_set k (p ∷ ps) = IsLastSet-more k p ps (last_set k ps) (setting_in k p) refl (IsLastSet-last_set k ps)

pub last_set-IsLastSet : (k : Key) (ps : List (List ℕ)) (o : Option (Setting k)) → IsLastSet k ps o → last_set k ps ≡ o
last_set-IsLastSet k ps None h = last_set-none k ps h
last_set-IsLastSet k ps (Some x) (before, p, after, whole, s, none) = ap (last_set k) whole ∙ last_set-some k before p after x s none

pub SetsAttributes-record_in : (n v : List ℕ) (ps : List (List ℕ)) → SetsAttributes ps (record_in n v ps)
SetsAttributes-record_in n v ps = record { each = each }
  where
    each : (k : Key) → IsLastSet k ps (field_at k (record_in n v ps))
    each key.HttpOnly = IsLastSet-last_set key.HttpOnly ps
    each k = IsLastSet-last_set k ps

-- so the pieces determine the attributes
record_in-SetsAttributes : (ps : List (List ℕ)) (r : Record) → SetsAttributes ps r → record_in r.name r.value ps ≡ r
record_in-SetsAttributes ps r h =
    λ i. record_of r.name r.value (λ k. last_set-IsLastSet k ps (field_at k r) (h.each k) i)

-- ---- the pair, and decoding

unless_empty-some : (t u : List ℕ) → unless_empty t ≡ Some u → (t ≡ u) × (u ≢ [])
unless_empty-some [] u e = absurd (none-some u e)
unless_empty-some (c ∷ cs) u e = (same_Some _ u e, λ n. let f : Some (c ∷ cs) ≡ Some [] = e ∙ ap Some n in cc)

pub some-unless_empty : (t : List ℕ) → t ≢ [] → unless_empty t ≡ Some t
some-unless_empty [] h = absurd (h refl)
some-unless_empty (c ∷ cs) h = refl

-- `decoded` gives the text that another is read as, and that one alone
pub decoded_text-IsDecoded : (decode : Bool) (t u : List ℕ) → (decoded_text decode t ≡ Some u) ↔ IsDecoded decode t u
decoded_text-IsDecoded false t u = (λ e. sym (same_Some t u e), λ e. ap Some (sym e))
decoded_text-IsDecoded true t u = (sound, complete)
  where
    sound : decoded_text true t ≡ Some u → IsDecoded true t u
    sound e =
        let (test, same) = cond-some (is_utf8 (unescape t)) (Some (unescape t)) u e in
        let q : unescape t ≡ u = same_Some _ u same in
        (sym q, subst IsUtf8 q (IsUtf8-from_is_utf8 (unescape t) test))

    complete : IsDecoded true t u → decoded_text true t ≡ Some u
    complete (q, h) =
        ap (λ b. cond b (Some (unescape t)) None) (is_utf8-from_IsUtf8 (unescape t) (subst IsUtf8 q h)) ∙ ap Some (sym q)

-- ---- the pieces of a text

cookie_in-sound : (decode : Bool) (p : List ℕ) (ps : List (List ℕ)) (r : Record) → cookie_in decode (p ∷ ps) ≡ Some r → ReadsPieces decode p ps (Ok r)
cookie_in-sound decode p ps r e₀ =
    let (v, is_value, e₁) = through _ (value_text p) r e₀ in
    let (n, is_name, e₂) = through _ (unless_empty (key_text p)) r e₁ in
    let (name, is_decoded_name, e₃) = through _ (decoded_text decode n) r e₂ in
    let (value, is_decoded_value, e₄) = through _ (decoded_text decode v) r e₃ in
    let (same_name, some) = unless_empty-some (key_text p) n is_name in
    let pair : IsPair p n v = subst (λ k. IsPair p k v) same_name (subst (IsAttribute p (key_text p)) is_value (IsAttribute-texts p)) in
    subst (λ q. ReadsPieces decode p ps (Ok q)) (same_Some _ r e₄) (n, v, pair, some, (decoded_text-IsDecoded decode n name).0 is_decoded_name, (decoded_text-IsDecoded decode v value).0 is_decoded_value, SetsAttributes-record_in name value ps)

cookie_in-complete : (decode : Bool) (p : List ℕ) (ps : List (List ℕ)) (r : Record) → ReadsPieces decode p ps (Ok r) → cookie_in decode (p ∷ ps) ≡ Some r
cookie_in-complete decode p ps r (n, v, pair, some, name, value, sets) =
    let (same_name, same_value) = IsAttribute-unique p n (Some v) (key_text p) (value_text p) pair (IsAttribute-texts p) in
    let is_name : unless_empty (key_text p) ≡ Some n = ap unless_empty (sym same_name) ∙ some-unless_empty n some in
    onward _ (value_text p) v r (sym same_value) (onward _ (unless_empty (key_text p)) n r is_name (onward _ (decoded_text decode n) r.name r ((decoded_text-IsDecoded decode n r.name).1 name) (onward _ (decoded_text decode v) r.value r ((decoded_text-IsDecoded decode v r.value).1 value) (ap Some (record_in-SetsAttributes ps r sets)))))

not_undecodable : (decode : Bool) (n v n' v' : List ℕ) → IsDecoded decode n n' → IsDecoded decode v v' → ¬ (IsUndecodable decode n v)
not_undecodable false n v n' v' h k u = u
not_undecodable true n v n' v' h k (inl u) = u (subst IsUtf8 h.0 h.1)
not_undecodable true n v n' v' h k (inr u) = u (subst IsUtf8 k.0 k.1)

-- pieces that are read as a record are not refused
ReadsPieces-one : (decode : Bool) (p : List ℕ) (ps : List (List ℕ)) (r : Record) (e : ParseError) → ReadsPieces decode p ps (Ok r) → ¬ (ReadsPieces decode p ps (Err e))
ReadsPieces-one decode p ps r refusal.MissingPair (n, v, (a, b, whole, _, _, _), _, _, _, _) h = not_lacking 61 p a b whole h
ReadsPieces-one decode p ps r refusal.EmptyName (n, v, pair, some, _, _, _) (w, h) = some (IsAttribute-unique p n (Some v) [] (Some w) pair h).0
ReadsPieces-one decode p ps r (refusal.Utf8Error x) (n, v, pair, some, name, value, _) (m, w, pair', _, bad) =
    let (same_name, same_value) = IsAttribute-unique p m (Some w) n (Some v) pair' pair in
    not_undecodable decode n v r.name r.value name value (subst (IsUndecodable decode n) (same_Some w v same_value) (subst (λ k. IsUndecodable decode k w) same_name bad))
ReadsPieces-one decode p ps r refusal.OutOfMemory h k = k

-- ---- texts

cookie_of-pieces : (decode : Bool) (t p : List ℕ) (ps : List (List ℕ)) → IsPieces t p ps → cookie_of decode t ≡ cookie_in decode (p ∷ ps)
unfolding cookie_of
cookie_of-pieces decode t p ps h = ap (cookie_in decode) (IsPieces-pieces t p ps h)

-- a text is read as the record that `cookie_of` gives, and as no other
pub cookie_of-Reads : (decode : Bool) (t : List ℕ) (r : Record) → (cookie_of decode t ≡ Some r) ↔ Reads decode t (Ok r)
cookie_of-Reads decode t r = (sound, complete)
  where
    sound : cookie_of decode t ≡ Some r → Reads decode t (Ok r)
    sound e =
        let (p, ps, h) = IsPieces-some t in
        (p, ps, h, cookie_in-sound decode p ps r (sym (cookie_of-pieces decode t p ps h) ∙ e))

    complete : Reads decode t (Ok r) → cookie_of decode t ≡ Some r
    complete (p, ps, h, k) = cookie_of-pieces decode t p ps h ∙ cookie_in-complete decode p ps r k

-- a text that is refused is read as no record
pub Reads-one : (decode : Bool) (t : List ℕ) (r : Record) (e : ParseError) → Reads decode t (Ok r) → ¬ (Reads decode t (Err e))
Reads-one decode t r e (p, ps, h, k) (q, qs, h', k') =
    let (first, later) = IsPieces-unique t q qs p ps h' h in
    ReadsPieces-one decode p ps r e k (subst (λ xs. ReadsPieces decode p xs (Err e)) later (subst (λ x. ReadsPieces decode x qs (Err e)) first k'))

pub cookie_of-refused : (decode : Bool) (t : List ℕ) (e : ParseError) → Reads decode t (Err e) → cookie_of decode t ≡ None
cookie_of-refused decode t e h =
    unless-some (cookie_of decode t) (λ r is. Reads-one decode t r e ((cookie_of-Reads decode t r).0 is) h)

-- what a reader's answer is, where `Reads` says what the text is read as
pub cookie_of-result : (decode : Bool) (t : List ℕ) (o : Result Record ParseError) → Reads decode t o → result_ok o ≡ cookie_of decode t
cookie_of-result decode t (Ok r) h = sym ((cookie_of-Reads decode t r).1 h)
cookie_of-result decode t (Err e) h = sym (cookie_of-refused decode t e h)

-- the records of a header are those of its texts
pub header_cookies-texts : (decode : Bool) (header : List ℕ) (texts : List (List ℕ)) → IsHeaderTexts header texts → header_cookies decode header ≡ filter_map (cookie_of decode) texts
unfolding header_cookies
header_cookies-texts decode header texts (p, ps, h, e) =
    ap (λ qs. filter_map (cookie_of decode) (kept_texts qs)) (IsPieces-pieces header p ps h) ∙ ap (filter_map (cookie_of decode)) (sym e)
