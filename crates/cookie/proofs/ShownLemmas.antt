-- The cookies that a jar shows, walked as those that were added and then the originals that nothing covers.
use Rattle.std.proofs.Common.{◌≡◌, ◌≤◌, ◌+◌, ℕ, Bool, not, length, length-append, arith, true, false, cond, List, [], ◌∷◌, ◌++◌, map, filter, Option, None, Some, is_some, is_none, refl, sym, ap, ◌∙◌, true≢false}
use Rattle.std.proofs.lemmas.List.Filters.{length-filter_both}
use Rattle.std.proofs.lemmas.List.Folds.{find-append}
use Rattle.std.proofs.lemmas.Slice.Eq.{bytes_eq-Decides}
use Rattle.std.specs.Cmp.Lexicographic.{nat_list_eq_equiv}
use Rattle.std.specs.FinMap.{FinMap, get}
use Rattle.std.specs.List.{AllByRecursion, IsDistinct, find}
use Rattle.std.specs.Option.{option_map, option_or}
use Rattle.std.specs.Str.{bytes_eq}
use Rattle.cookie_core.specs.Record.{Record}
use Rattle.cookie.specs.Jar.{name_cmp, Marked, overlay}
use Rattle.cookie.specs.Shown.{additions, uncovered}
use Rattle.cookie.specs.Walk.{Walks}

abbrev names : List Record → List (List ℕ)
names cookies = map (λ c. c.name) cookies

abbrev entry_names : List Marked → List (List ℕ)
entry_names entries = map (λ m. m.cookie.name) entries

-- the first cookie of that name
abbrev named : List ℕ → List Record → Option Record
named n cookies = find (λ c. bytes_eq n c.name) cookies

-- the first entry of that name
abbrev entry_named : List ℕ → List Marked → Option Marked
entry_named n entries = find (λ m. bytes_eq n m.cookie.name) entries

-- ---- how many there are

additions_at_most : (entries : List Marked) → length (additions entries) ≤ length entries
additions_at_most [] = omega arith
additions_at_most (m ∷ entries) = by m.removed (additions_at_most entries)
  where
    by : (removed : Bool) → length (additions entries) ≤ length entries → length (cond removed (additions entries) (m.cookie ∷ additions entries)) ≤ length (m ∷ entries)
    by true fewer = omega (arith, fewer)
    by false fewer = omega (arith, fewer)

-- no more than the entries and the originals
pub length-shown : (delta : FinMap name_cmp Marked) (entries : List Marked) (originals : List Record)
    → length (additions entries ++ uncovered delta originals) ≤ length entries + length originals
length-shown delta entries originals =
    let is_free : Record → Bool = λ c. is_none (get delta c.name) in
    omega (
      arith,
      length-append (additions entries) (uncovered delta originals),
      additions_at_most entries,
      length-filter_both is_free (λ c. not (is_free c)) (λ c. refl) originals,
    )

-- ---- what stands at a name

abbrev IsApart : List ℕ → List (List ℕ) → Type 0
IsApart n others = AllByRecursion (λ m. bytes_eq n m ≡ false) others

pub option_map-itself : {X : Type 0} (o : Option X) → option_map (λ x. x) o ≡ o
option_map-itself (Some x) = refl
option_map-itself None = refl

no_entry : (n : List ℕ) (entries : List Marked) → IsApart n (entry_names entries) → entry_named n entries ≡ None
no_entry n [] apart = refl
no_entry n (m ∷ entries) apart = rw apart.0 (no_entry n entries apart.1)

-- one more entry in front of those that have o at the name
addition_first : (removed : Bool) (cookie : Record) (later : List Record) (n : List ℕ) (o : Option Marked)
    → (n ≡ cookie.name → o ≡ None) → named n later ≡ overlay o None
    → named n (cond removed later (cookie ∷ later)) ≡ overlay (cond (bytes_eq n cookie.name) (Some (record { cookie = cookie; removed = removed })) o) None
addition_first removed cookie later n o alone found = by (bytes_eq n cookie.name) refl removed
  where
    by : (b : Bool) → bytes_eq n cookie.name ≡ b → (removed : Bool)
        → named n (cond removed later (cookie ∷ later)) ≡ overlay (cond b (Some (record { cookie = cookie; removed = removed })) o) None
    by true e true = found ∙ ap (λ d. overlay d None) (alone ((bytes_eq-Decides n cookie.name).0 e))
    by true e false = ap (λ b. cond b (Some cookie) (named n later)) e
    by false e true = found
    by false e false = ap (λ b. cond b (Some cookie) (named n later)) e ∙ found

found_additions : (entries : List Marked) → IsDistinct bytes_eq (entry_names entries) → (n : List ℕ) → named n (additions entries) ≡ overlay (entry_named n entries) None
unfolding IsDistinct
found_additions [] distinct n = refl
found_additions (m ∷ entries) distinct n =
    addition_first m.removed m.cookie (additions entries) n (entry_named n entries)
    (λ same. ap (λ k. entry_named k entries) same ∙ no_entry m.cookie.name entries distinct.0) (found_additions entries distinct.1 n)

same_either_way : {X : Type 0} (b : Bool) (x : X) → x ≡ cond b x x
same_either_way true x = refl
same_either_way false x = refl

module _ (delta : FinMap name_cmp Marked) where
  uncovered_first : (c : Record) (cs : List Record) (n : List ℕ) (o : Option Record) → named n (uncovered delta cs) ≡ cond (is_some (get delta n)) None o
      → named n (uncovered delta (c ∷ cs)) ≡ cond (is_some (get delta n)) None (cond (bytes_eq n c.name) (Some c) o)
  uncovered_first c cs n o found = by (bytes_eq n c.name) refl
    where
      here : (d : Option Marked) → bytes_eq n c.name ≡ true → get delta n ≡ d
          → named n (cond (is_none d) (c ∷ uncovered delta cs) (uncovered delta cs)) ≡ cond (is_some d) None (Some c)
      here None e at = ap (λ b. cond b (Some c) (named n (uncovered delta cs))) e
      here (Some x) e at = found ∙ ap (λ d. cond (is_some d) None o) at

      elsewhere : (t : Bool) → bytes_eq n c.name ≡ false
          → named n (cond t (c ∷ uncovered delta cs) (uncovered delta cs)) ≡ cond (is_some (get delta n)) None o
      elsewhere true e = ap (λ b. cond b (Some c) (named n (uncovered delta cs))) e ∙ found
      elsewhere false e = found

      by : (b : Bool) → bytes_eq n c.name ≡ b → named n (uncovered delta (c ∷ cs)) ≡ cond (is_some (get delta n)) None (cond b (Some c) o)
      by true e =
          let same = (bytes_eq-Decides n c.name).0 e in
          ap (λ m. named n (cond (is_none (get delta m)) (c ∷ uncovered delta cs) (uncovered delta cs))) (sym same) ∙ here (get delta n) e refl
      by false e = elsewhere (is_none (get delta c.name)) e

  found_uncovered : (cs : List Record) (n : List ℕ) → named n (uncovered delta cs) ≡ cond (is_some (get delta n)) None (named n cs)
  found_uncovered [] n = same_either_way (is_some (get delta n)) None
  found_uncovered (c ∷ cs) n = uncovered_first c cs n (named n cs) (found_uncovered cs n)

-- an addition or, where the delta has nothing, the original
either : (d : Option Marked) (o : Option Record) → option_or (overlay d None) (cond (is_some d) None o) ≡ overlay d o
either None o = refl
either (Some m) o = by m.removed
  where
    by : (b : Bool) → option_or (cond b None (Some m.cookie)) None ≡ cond b None (Some m.cookie)
    by true = refl
    by false = refl

-- ---- each name once

-- a fact of a list with x in front or without it
module _ (Holds : List Record → Type 0) where
  with_or_without : (b : Bool) (x : Record) (xs : List Record) → Holds (x ∷ xs) → Holds xs → Holds (cond b (x ∷ xs) xs)
  with_or_without true x xs longer shorter = longer
  with_or_without false x xs longer shorter = shorter

  without_or_with : (b : Bool) (x : Record) (xs : List Record) → Holds (x ∷ xs) → Holds xs → Holds (cond b xs (x ∷ xs))
  without_or_with true x xs longer shorter = shorter
  without_or_with false x xs longer shorter = longer

abbrev AreApart : List Record → Type 0
AreApart cookies = IsDistinct bytes_eq (names cookies)

module _ (test : Record → Bool) where
  filter_apart : (n : List ℕ) (cs : List Record) → IsApart n (names cs) → IsApart n (names (filter test cs))
  filter_apart n [] h = tt
  filter_apart n (c ∷ cs) h =
      let later = filter_apart n cs h.1 in
      with_or_without (λ xs. IsApart n (names xs)) (test c) c (filter test cs) (h.0, later) later

  filter_distinct : (cs : List Record) → AreApart cs → AreApart (filter test cs)
  unfolding IsDistinct
  filter_distinct [] h = tt
  filter_distinct (c ∷ cs) h =
      let later = filter_distinct cs h.1 in
      with_or_without AreApart (test c) c (filter test cs) (filter_apart c.name cs h.0, later) later

module _ (delta : FinMap name_cmp Marked) (cs : List Record) where
  -- where the delta has a name, no uncovered cookie has it
  uncovered_apart : (n : List ℕ) → is_some (get delta n) ≡ true → (cs : List Record) → IsApart n (names (uncovered delta cs))
  uncovered_apart n covers [] = tt
  uncovered_apart n covers (c ∷ cs) = by (get delta c.name) refl (uncovered_apart n covers cs)
    where
      other : (b : Bool) → bytes_eq n c.name ≡ b → get delta c.name ≡ None → b ≡ false
      other true e lacks = absurd (true≢false (sym covers ∙ ap (λ m. is_some (get delta m)) ((bytes_eq-Decides n c.name).0 e) ∙ ap is_some lacks))
      other false e lacks = refl

      by : (d : Option Marked) → get delta c.name ≡ d → IsApart n (names (uncovered delta cs)) → IsApart n (names (cond (is_none d) (c ∷ uncovered delta cs) (uncovered delta cs)))
      by None e later = (other (bytes_eq n c.name) refl e, later)
      by (Some y) e later = later

  some_either_way : (b : Bool) (m : Marked) (o : Option Marked) → is_some o ≡ true → is_some (cond b (Some m) o) ≡ true
  some_either_way true m o h = refl
  some_either_way false m o h = h

  -- the entries' names are apart from those of the uncovered cookies
  all_apart : (entries : List Marked) → ((n : List ℕ) → is_some (entry_named n entries) ≡ true → is_some (get delta n) ≡ true)
      → AllByRecursion (λ m. IsApart m.cookie.name (names (uncovered delta cs))) entries
  all_apart [] covers = tt
  all_apart (m ∷ entries) covers =
      let itself : is_some (entry_named m.cookie.name (m ∷ entries)) ≡ true =
      ap (λ b. is_some (cond b (Some m) (entry_named m.cookie.name entries))) (nat_list_eq_equiv.refl m.cookie.name) in (
        uncovered_apart m.cookie.name (covers m.cookie.name itself) cs,
        all_apart entries (λ n h. covers n (some_either_way (bytes_eq n m.cookie.name) m (entry_named n entries) h)),
      )

module _ (others : List Record) where
  additions_apart : (n : List ℕ) (entries : List Marked) → IsApart n (entry_names entries) → IsApart n (names others) → IsApart n (names (additions entries ++ others))
  additions_apart n [] apart h = h
  additions_apart n (m ∷ entries) apart h =
      let later = additions_apart n entries apart.1 h in
      without_or_with (λ cs. IsApart n (names (cs ++ others))) m.removed m.cookie (additions entries) (apart.0, later) later

  additions_distinct : (entries : List Marked) → IsDistinct bytes_eq (entry_names entries) → AllByRecursion (λ m. IsApart m.cookie.name (names others)) entries
      → AreApart others → AreApart (additions entries ++ others)
  unfolding IsDistinct
  additions_distinct [] distinct apart h = h
  additions_distinct (m ∷ entries) distinct apart h =
      let later = additions_distinct entries distinct.1 apart.1 h in
      without_or_with (λ cs. AreApart (cs ++ others)) m.removed m.cookie (additions entries) (additions_apart m.cookie.name entries distinct.0 apart.0, later) later

-- the additions, and then the uncovered originals, are what the overlay shows, each name once
pub walks_shown : (delta : FinMap name_cmp Marked) (originals : FinMap name_cmp Record) (entries : List Marked) (cookies : List Record)
    → ((n : List ℕ) → find (λ m. bytes_eq n m.cookie.name) entries ≡ get delta n) → IsDistinct bytes_eq (map (λ m. m.cookie.name) entries)
    → Walks (get originals) cookies → Walks (λ n. overlay (get delta n) (get originals n)) (additions entries ++ uncovered delta cookies)
walks_shown delta originals entries cookies found once walks =
    let others = uncovered delta cookies in
    record {
      found = λ n.
          find-append (λ c. bytes_eq n c.name) (additions entries) others
          ∙ ap (λ o. option_or o (named n others)) (found_additions entries once n ∙ ap (λ d. overlay d None) (found n))
          ∙ ap (option_or (overlay (get delta n) None)) (found_uncovered delta cookies n ∙ ap (cond (is_some (get delta n)) None) (walks.found n))
          ∙ either (get delta n) (get originals n);
      once = additions_distinct others entries once (all_apart delta cookies entries (λ n h. ap is_some (sym (found n)) ∙ h))
          (filter_distinct (λ c. is_none (get delta c.name)) cookies walks.once);
    }
