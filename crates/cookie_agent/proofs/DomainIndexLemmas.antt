-- The numbers at a domain, which stand in a map under its reverse.
use Rattle.std.proofs.Common.{◌≡◌, ℕ, zero, suc, ◌+◌, ◌<◌, ◌==◌, ◌&&◌, not, Bool, true, false, cond, List, [], ◌∷◌, ◌++◌, length, take, get_or, reverse, Option, Some, None, bytes_eq, option_map, unwrap_or, refl, sym, ap, subst, ◌∙◌, inl, inr, ◌⊎◌, ⊎_elim, arith, Vec, Global}
use Rattle.std.proofs.lemmas.Bool.{false≢true, and_parts, or_cases}
use Rattle.std.proofs.lemmas.List.{append_assoc, get_or_at, length-append, reverse-append, take_at}
use Rattle.std.proofs.lemmas.List.Elements.{Contains-append_right}
use Rattle.std.proofs.lemmas.Slice.Eq.{bytes_eq-Decides}
use Rattle.std.specs.BTreeMap.{BTreeMap, insert_entry}
use Rattle.std.specs.BTreeMap.Range.{entries_between, range_contains}
use Rattle.std.specs.Cmp.Lexicographic.{slice_cmp, texts_ties}
use Rattle.std.proofs.lemmas.Map.Entries.{lookup-filter-keys}
use Rattle.std.specs.List.{Contains, filter}
use Rattle.std.specs.Map.{lookup, set_value}
use Rattle.std.specs.Ordering.{is_eq, is_gt, is_le, match_ordering, nat_cmp, ordering_then}
use Rattle.std.specs.Cmp.{Equal-is, unsigned_ties}
use Rattle.std.specs.declared.ops.Bound.TheVariants.{Excluded, Included}
use Rattle.std.specs.declared.cmp.Ordering.{Ordering}
use Rattle.std.specs.declared.cmp.Ordering.TheVariants.{Less, Equal, Greater}
use Rattle.cookie_browser.specs.Request.{is_in_domain}
use Rattle.cookie_browser.proofs.DomainLemmas.{follows_dot, in_domain-follows}
use Rattle.cookie_agent.specs.IndexCode.{IsNumberAt, Lists, numbers_at}
use Rattle.cookie_agent.proofs.NumberLemmas.{number_same, same_number}
use Rattle.cookie_agent.specs.declared.domain_index.DomainIndex.{DomainIndex}

-- ---- what is below a domain

same_bytes : (a b : List ℕ) → bytes_eq a b ≡ true → a ≡ b
same_bytes a b e = (bytes_eq-Decides a b).0 e

-- what follows one of its dots begins its reverse, before a dot
pub reverse_dot : (longer shorter : List ℕ) → follows_dot longer shorter ≡ true → (rest : List ℕ) × (reverse longer ≡ reverse shorter ++ 46 ∷ rest)
reverse_dot [] shorter e = absurd (false≢true e)
reverse_dot (byte ∷ bytes) shorter e =
    ⊎_elim
    (λ here. let both = and_parts (byte == 46) (bytes_eq bytes shorter) here in
    let dot : byte ≡ 46 = number_same byte 46 both.0 in
    ([], reverse-append (byte ∷ []) bytes ∙ ap (λ (l : List ℕ). reverse l ++ byte ∷ []) (same_bytes bytes shorter both.1) ∙ ap (λ (b : ℕ). reverse shorter ++ b ∷ []) dot))
    (λ later. let more = reverse_dot bytes shorter later in
    (more.0 ++ byte ∷ [], reverse-append (byte ∷ []) bytes ∙ ap (λ (l : List ℕ). l ++ byte ∷ []) more.1 ∙ append_assoc (reverse shorter) (46 ∷ more.0) (byte ∷ [])))
    (or_cases (byte == 46 && bytes_eq bytes shorter) (follows_dot bytes shorter) e)

-- a domain is in another if it is the same, or its reverse begins with the other's and a dot
pub in_domain-reverse : (domain other : List ℕ) → is_in_domain domain false other ≡ true
    → (domain ≡ other) ⊎ ((rest : List ℕ) × (reverse domain ≡ reverse other ++ 46 ∷ rest))
in_domain-reverse domain other e =
    ⊎_elim (λ same. inl (same_bytes domain other same)) (λ dot. inr (reverse_dot domain other dot))
    (or_cases (bytes_eq domain other) (follows_dot domain other) (sym (in_domain-follows domain other) ∙ e))

-- ---- the map after a write at a key

unequal_parts : (q a b : List ℕ) → bytes_eq q b ≡ true → bytes_eq q a ≡ true → a ≡ b
unequal_parts q a b e f = sym (same_bytes q a f) ∙ same_bytes q b e

module _ {K : Type 0} (items : K → List ℕ) where
  -- the key's bytes are these
  abbrev pub finds : List ℕ → K → Bool
  finds q k = is_eq (slice_cmp nat_cmp q (items k))

  finds-is : (q : List ℕ) (k : K) → finds q k ≡ bytes_eq q (items k)
  finds-is q k = sym (texts_ties q (items k))

  passed : {Y : Type 0} (f b : Bool) (x y z : Y) → (f ≡ true → b ≡ true → ⊥) → cond f x (cond b y z) ≡ cond b y (cond f x z)
  passed true true x y z apart = absurd (apart refl refl)
  passed true false x y z apart = refl
  passed false true x y z apart = refl
  passed false false x y z apart = refl

  twice : {Y : Type 0} (b : Bool) (x y z : Y) → cond b x z ≡ cond b x (cond b y z)
  twice true x y z = refl
  twice false x y z = refl

  -- an entry of that key is replaced
  replaced : {X : Type 0} (q key : List ℕ) (e : K × X) (w : X) (o : Option X) → key ≡ items e.0
      → cond (finds q e.0) (Some w) o ≡ cond (bytes_eq q key) (Some w) (cond (finds q e.0) (Some e.1) o)
  replaced q key e w o is =
      let same : finds q e.0 ≡ bytes_eq q key = finds-is q e.0 ∙ ap (bytes_eq q) (sym is) in
      ap (λ b. cond b (Some w) o) same ∙ twice (bytes_eq q key) (Some w) (Some e.1) o
      ∙ ap (λ b. cond (bytes_eq q key) (Some w) (cond b (Some e.1) o)) (sym same)

  -- an entry of another key stays
  stayed : {X : Type 0} (q key : List ℕ) (e : K × X) (w : X) (new old : Option X) → (key ≡ items e.0 → ⊥) → new ≡ cond (bytes_eq q key) (Some w) old
      → cond (finds q e.0) (Some e.1) new ≡ cond (bytes_eq q key) (Some w) (cond (finds q e.0) (Some e.1) old)
  stayed q key e w new old other rest =
      ap (λ o. cond (finds q e.0) (Some e.1) o) rest
      ∙ passed (finds q e.0) (bytes_eq q key) (Some e.1) (Some w) old (λ f b. other (unequal_parts q key (items e.0) (sym (finds-is q e.0) ∙ f) b))

  pub lookup-set : {X : Type 0} (q key : List ℕ) (w v : X) (es : List (K × X)) → lookup (finds key) es ≡ Some v
      → lookup (finds q) (set_value (finds key) es w) ≡ cond (bytes_eq q key) (Some w) (lookup (finds q) es)
  lookup-set q key w v [] found = cc
  lookup-set {X} q key w v (e ∷ es) found = by (finds key e.0) refl found (lookup-set q key w v es)
    where
      by : (b : Bool) → finds key e.0 ≡ b → cond b (Some e.1) (lookup (finds key) es) ≡ Some v
          → (lookup (finds key) es ≡ Some v → lookup (finds q) (set_value (finds key) es w) ≡ cond (bytes_eq q key) (Some w) (lookup (finds q) es))
          → lookup (finds q) (cond b ((e.0, w) ∷ es) (e ∷ set_value (finds key) es w)) ≡ cond (bytes_eq q key) (Some w) (cond (finds q e.0) (Some e.1) (lookup (finds q) es))
      by true is there rest = replaced q key e w (lookup (finds q) es) (same_bytes key (items e.0) (sym (finds-is key e.0) ∙ is))
      by false is there rest =
          stayed q key e w (lookup (finds q) (set_value (finds key) es w)) (lookup (finds q) es)
          (λ same. false≢true (sym is ∙ finds-is key e.0 ∙ ap (bytes_eq key) (sym same) ∙ (bytes_eq-Decides key key).1 refl)) (rest there)

  pub lookup-insert : {X : Type 0} (q : List ℕ) (k : K) (v : X) (es : List (K × X))
      → lookup (finds q) (insert_entry (λ a b. slice_cmp nat_cmp (items a) (items b)) es k v) ≡ cond (bytes_eq q (items k)) (Some v) (lookup (finds q) es)
  lookup-insert q k v [] = ap (λ b. cond b (Some v) None) (finds-is q k)
  lookup-insert {X} q k v (e ∷ es) = by (slice_cmp nat_cmp (items k) (items e.0)) refl (lookup-insert q k v es)
    where
      more : List (K × X)
      more = insert_entry (λ a b. slice_cmp nat_cmp (items a) (items b)) es k v

      by : (o : Ordering) → slice_cmp nat_cmp (items k) (items e.0) ≡ o
          → lookup (finds q) more ≡ cond (bytes_eq q (items k)) (Some v) (lookup (finds q) es)
          → lookup (finds q) (match_ordering o ((k, v) ∷ e ∷ es) ((e.0, v) ∷ es) (e ∷ more)) ≡ cond (bytes_eq q (items k)) (Some v) (cond (finds q e.0) (Some e.1) (lookup (finds q) es))
      by Less is rest = ap (λ b. cond b (Some v) (cond (finds q e.0) (Some e.1) (lookup (finds q) es))) (finds-is q k)
      by Equal is rest = replaced q (items k) e v (lookup (finds q) es) (same_bytes (items k) (items e.0) (texts_ties (items k) (items e.0) ∙ ap is_eq is))
      by Greater is rest =
          stayed q (items k) e v (lookup (finds q) more) (lookup (finds q) es)
          (λ same. false≢true (sym (ap is_eq is) ∙ sym (texts_ties (items k) (items e.0)) ∙ ap (bytes_eq (items k)) (sym same) ∙ (bytes_eq-Decides (items k) (items k)).1 refl)) rest

-- what is found, as a list
pub out : {X : Type 0} (f : X → List ℕ) (b : Bool) (w : X) (o : Option X) → unwrap_or (option_map f (cond b (Some w) o)) [] ≡ cond b (f w) (unwrap_or (option_map f o) [])
out f true w o = refl
out f false w o = refl

-- a number at a domain stays there, if it does in the list that is written
module _ (old new : List ℕ → List ℕ) (key ws : List ℕ) (written : (q : List ℕ) → new q ≡ cond (bytes_eq q key) ws (old q)) where
  pub stays : (P : ℕ → Type 0) → ((n : ℕ) → P n → Contains (old key) n → Contains ws n) → (q : List ℕ) (n : ℕ) → P n → Contains (old q) n → Contains (new q) n
  stays P left q n live here = by (bytes_eq q key) refl (written q)
    where
      by : (b : Bool) → bytes_eq q key ≡ b → new q ≡ cond b ws (old q) → Contains (new q) n
      by true is e = subst (λ l. Contains l n) (sym e) (left n live (subst (λ k. Contains (old k) n) (same_bytes q key is) here))
      by false is e = subst (λ l. Contains l n) (sym e) here

  pub is_written : new key ≡ ws
  is_written = written key ∙ ap (λ b. cond b ws (old key)) ((bytes_eq-Decides key key).1 refl)

-- ---- the index after a write

-- the numbers of the first entry under the key
abbrev pub numbers_of : List ℕ → List (Vec ℕ Global × Vec ℕ Global) → List ℕ
numbers_of q es = unwrap_or (option_map (λ (v : Vec ℕ Global). v.items) (lookup (finds (λ (k : Vec ℕ Global). k.items) q) es)) []

pub numbers-set : (m n : BTreeMap (Vec ℕ Global) (Vec ℕ Global)) (key : List ℕ) (w v : Vec ℕ Global)
    → Some v ≡ lookup (finds (λ (k : Vec ℕ Global). k.items) key) m.entries → n.entries ≡ set_value (finds (λ (k : Vec ℕ Global). k.items) key) m.entries w
    → (q : List ℕ) → numbers_at (record { numbers = n }) q ≡ cond (bytes_eq q key) w.items (numbers_at (record { numbers = m }) q)
unfolding numbers_at
numbers-set m n key w v found written q =
    let items : Vec ℕ Global → List ℕ = λ k. k.items in
    ap (λ es. unwrap_or (option_map items (lookup (finds items q) es)) []) written
    ∙ ap (λ o. unwrap_or (option_map items o) []) (lookup-set items q key w v m.entries (sym found))
    ∙ out items (bytes_eq q key) w (lookup (finds items q) m.entries)

pub numbers-insert : (m n : BTreeMap (Vec ℕ Global) (Vec ℕ Global)) (k v : Vec ℕ Global)
    → n.entries ≡ insert_entry (λ (a b : Vec ℕ Global). slice_cmp nat_cmp a.items b.items) m.entries k v
    → (q : List ℕ) → numbers_at (record { numbers = n }) q ≡ cond (bytes_eq q k.items) v.items (numbers_at (record { numbers = m }) q)
unfolding numbers_at
numbers-insert m n k v written q =
    let items : Vec ℕ Global → List ℕ = λ k. k.items in
    ap (λ es. unwrap_or (option_map items (lookup (finds items q) es)) []) written
    ∙ ap (λ o. unwrap_or (option_map items o) []) (lookup-insert items q k v m.entries)
    ∙ out items (bytes_eq q k.items) v (lookup (finds items q) m.entries)

-- the list under the key that isn't there is empty
pub numbers-none : (m : BTreeMap (Vec ℕ Global) (Vec ℕ Global)) (key : List ℕ) → None ≡ lookup (finds (λ (k : Vec ℕ Global). k.items) key) m.entries → numbers_at (record { numbers = m }) key ≡ []
unfolding numbers_at
numbers-none m key e = let items : Vec ℕ Global → List ℕ = λ k. k.items in ap (λ o. unwrap_or (option_map items o) []) (sym e)

pub numbers-some : (m : BTreeMap (Vec ℕ Global) (Vec ℕ Global)) (key : List ℕ) (v : Vec ℕ Global) → Some v ≡ lookup (finds (λ (k : Vec ℕ Global). k.items) key) m.entries → numbers_at (record { numbers = m }) key ≡ v.items
unfolding numbers_at
numbers-some m key v e = let items : Vec ℕ Global → List ℕ = λ k. k.items in ap (λ o. unwrap_or (option_map items o) []) (sym e)

-- a write that leaves the entries leaves the numbers
pub numbers-same : (m n : BTreeMap (Vec ℕ Global) (Vec ℕ Global)) → n.entries ≡ m.entries → (q : List ℕ) → numbers_at (record { numbers = n }) q ≡ numbers_at (record { numbers = m }) q
unfolding numbers_at
numbers-same m n e q = let items : Vec ℕ Global → List ℕ = λ k. k.items in ap (λ es. unwrap_or (option_map items (lookup (finds items q) es)) []) e

-- ---- the keys between

same_order : (x : ℕ) → nat_cmp x x ≡ Equal
same_order x = (Equal-is (nat_cmp x x)).0 (sym (unsigned_ties x x) ∙ same_number x x refl)

begins_le : (p rest : List ℕ) → is_le (slice_cmp nat_cmp (p ++ 46 ∷ []) (p ++ 46 ∷ rest)) ≡ true
begins_le [] [] = refl
begins_le [] (x ∷ rest) = refl
begins_le (x ∷ p) rest = ap (λ o. is_le (ordering_then o (slice_cmp nat_cmp (p ++ 46 ∷ []) (p ++ 46 ∷ rest)))) (same_order x) ∙ begins_le p rest

ends_above : (p rest : List ℕ) → is_le (slice_cmp nat_cmp (p ++ 47 ∷ []) (p ++ 46 ∷ rest)) ≡ false
ends_above [] rest = refl
ends_above (x ∷ p) rest = ap (λ o. is_le (ordering_then o (slice_cmp nat_cmp (p ++ 47 ∷ []) (p ++ 46 ∷ rest)))) (same_order x) ∙ ends_above p rest

dot_first : (p : List ℕ) → is_gt (slice_cmp nat_cmp (p ++ 46 ∷ []) (p ++ 47 ∷ [])) ≡ false
dot_first [] = refl
dot_first (x ∷ p) = ap (λ o. is_gt (ordering_then o (slice_cmp nat_cmp (p ++ 46 ∷ []) (p ++ 47 ∷ [])))) (same_order x) ∙ dot_first p

-- the bounds of what begins with these bytes and a dot
module _ (p low high : List ℕ) (from : low ≡ p ++ 46 ∷ []) (to : high ≡ p ++ 47 ∷ []) where
  pub forward : is_gt (slice_cmp nat_cmp low high) ≡ false
  forward = ap (λ l. is_gt (slice_cmp nat_cmp l high)) from ∙ ap (λ h. is_gt (slice_cmp nat_cmp (p ++ 46 ∷ []) h)) to ∙ dot_first p

  within : (key rest : List ℕ) → key ≡ p ++ 46 ∷ rest → (is_le (slice_cmp nat_cmp low key) && not (is_le (slice_cmp nat_cmp high key))) ≡ true
  within key rest is =
      ap (λ k. is_le (slice_cmp nat_cmp low k) && not (is_le (slice_cmp nat_cmp high k))) is
      ∙ ap (λ l. is_le (slice_cmp nat_cmp l (p ++ 46 ∷ rest)) && not (is_le (slice_cmp nat_cmp high (p ++ 46 ∷ rest)))) from
      ∙ ap (λ h. is_le (slice_cmp nat_cmp (p ++ 46 ∷ []) (p ++ 46 ∷ rest)) && not (is_le (slice_cmp nat_cmp h (p ++ 46 ∷ rest)))) to
      ∙ ap (λ b. b && not (is_le (slice_cmp nat_cmp (p ++ 47 ∷ []) (p ++ 46 ∷ rest)))) (begins_le p rest)
      ∙ ap (λ b. not b) (ends_above p rest)

-- ---- what is gathered

-- the numbers under the domain's reverse, and under each part of it before a dot, are those of the domain and those above it
pub above-all : (index : DomainIndex) (key domain found : List ℕ) → key ≡ reverse domain
    → ((n : ℕ) → IsNumberAt index key n → Contains found n)
    → ((k : ℕ) → k < length key → get_or key k 0 ≡ 46 → (n : ℕ) → IsNumberAt index (take k key) n → Contains found n)
    → (other : List ℕ) (n : ℕ) → is_in_domain domain false other ≡ true → Lists index other n → Contains found n
above-all index key domain found is whole dots other n inside listed =
    ⊎_elim
    (λ same. whole n (subst (λ k. IsNumberAt index k n) (ap (λ (d : List ℕ). reverse d) (sym same) ∙ sym is) listed))
    (λ below.
    let k = length (reverse other) in
    let parts : key ≡ reverse other ++ 46 ∷ below.0 = is ∙ below.1 in
    let long : length key ≡ k + suc (length below.0) = ap (λ (l : List ℕ). length l) parts ∙ length-append (reverse other) (46 ∷ below.0) in
    dots k (omega (arith, long)) (ap (λ (l : List ℕ). get_or l k 0) parts ∙ get_or_at (reverse other) 46 below.0 0 k refl) n
    (subst (λ l. IsNumberAt index l n) (sym (ap (λ (l : List ℕ). take k l) parts ∙ take_at (reverse other) (46 ∷ below.0) k refl)) listed))
    (in_domain-reverse domain other inside)

-- those of the next entry are found, or are still to come
pub rest_more : (es rest : List (Vec ℕ Global × Vec ℕ Global)) (e : Vec ℕ Global × Vec ℕ Global) (found after : List ℕ) → es ≡ e ∷ rest → after ≡ found ++ e.1.items
    → (q : List ℕ) (n : ℕ) → Contains (numbers_of q es) n → Contains after n ⊎ Contains (numbers_of q rest) n
rest_more es rest e found after is more q n here = by (finds (λ (k : Vec ℕ Global). k.items) q e.0) (subst (λ l. Contains (numbers_of q l) n) is here)
  where
    by : (b : Bool) → Contains (unwrap_or (option_map (λ (v : Vec ℕ Global). v.items) (cond b (Some e.1) (lookup (finds (λ (k : Vec ℕ Global). k.items) q) rest))) []) n
        → Contains after n ⊎ Contains (numbers_of q rest) n
    by true there = inl (subst (λ l. Contains l n) (sym more) (Contains-append_right found e.1.items n there))
    by false there = inr there

-- the numbers under the domain's reverse, and under each key that begins with it and a dot, are those of the domain and those below it
pub below-all : (index : DomainIndex) (key domain : List ℕ) (low high : Vec ℕ Global) (found : List ℕ) → key ≡ reverse domain → low.items ≡ key ++ 46 ∷ [] → high.items ≡ key ++ 47 ∷ []
    → ((n : ℕ) → IsNumberAt index key n → Contains found n)
    → ((q : List ℕ) (n : ℕ) → Contains (numbers_of q (entries_between (λ (a b : Vec ℕ Global). slice_cmp nat_cmp a.items b.items) (Included low) (Excluded high) index.numbers.entries)) n → Contains found n)
    → (other : List ℕ) (n : ℕ) → is_in_domain other false domain ≡ true → Lists index other n → Contains found n
unfolding numbers_at
below-all index key domain low high found is from to whole between other n inside listed =
    let items : Vec ℕ Global → List ℕ = λ v. v.items in
    ⊎_elim
    (λ same. whole n (subst (λ k. IsNumberAt index k n) (ap (λ (d : List ℕ). reverse d) same ∙ sym is) listed))
    (λ below.
    let begins : reverse other ≡ key ++ 46 ∷ below.0 = below.1 ∙ ap (λ k. k ++ 46 ∷ below.0) (sym is) in
    let kept = lookup-filter-keys (finds items (reverse other)) (range_contains (λ (a b : Vec ℕ Global). slice_cmp nat_cmp a.items b.items) (Included low) (Excluded high)) true
    (λ k here. within key low.items high.items from to k.items below.0 (sym (same_bytes (reverse other) k.items (sym (finds-is items (reverse other) k) ∙ here)) ∙ begins)) index.numbers.entries in
    between (reverse other) n (subst (λ o. Contains (unwrap_or (option_map items o) []) n) (sym kept) listed))
    (in_domain-reverse other domain inside)

-- a number that passes is left
pub Contains-passing : (test : ℕ → Bool) (ns : List ℕ) (n : ℕ) → test n ≡ true → Contains ns n → Contains (filter test ns) n
Contains-passing test ns n passes (k, below, is) = by ns k below is
  where
    by : (ms : List ℕ) (j : ℕ) → j < length ms → get_or ms j n ≡ n → Contains (filter test ms) n
    by [] j lt e = absurd (omega (arith, lt))
    by (m ∷ ms) zero lt e =
        subst (λ x. Contains (cond (test x) (x ∷ filter test ms) (filter test ms)) n) (sym e)
        (subst (λ b. Contains (cond b (n ∷ filter test ms) (filter test ms)) n) (sym passes) (0, omega arith, refl))
    by (m ∷ ms) (suc j) lt e = onto (test m) (by ms j (omega (arith, lt)) e)
      where
        onto : (b : Bool) → Contains (filter test ms) n → Contains (cond b (m ∷ filter test ms) (filter test ms)) n
        onto true rest = Contains-append_right (m ∷ []) (filter test ms) n rest
        onto false rest = rest
