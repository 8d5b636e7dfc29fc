-- How often a number or a text is in a list, by a list of numbers that is sorted.
use Rattle.std.proofs.Common.{◌≡◌, ℕ, zero, suc, ◌+◌, ◌-◌, ◌<◌, ◌≤◌, ◌==◌, Bool, true, false, cond, List, [], ◌∷◌, length, get_or, map, refl, sym, ap, ◌∙◌, arith}
use Rattle.std.proofs.lemmas.Bool.{false≢true}
use Rattle.std.proofs.lemmas.Bool.Decides.{Decides-eqb}
use Rattle.std.proofs.lemmas.Slice.Eq.{bytes_eq-Decides}
use Rattle.std.specs.List.{count_by}
use Rattle.std.specs.List.Sorted.{IsPermutation}
use Rattle.std.specs.Str.{bytes_eq}
use Rattle.cookie_browser.specs.Storage.{CookieStore, KeptView}
use Rattle.cookie_browser.specs.Suffixes.{Rule}
use Rattle.cookie_agent.specs.Limits.{counts, staying}
use Rattle.cookie_agent.specs.LimitsCode.{Rank, blank, counted_by, picked, rank_at, text_of}
use Rattle.cookie_agent.specs.SumsCode.{sum_of}
use Rattle.cookie_agent.specs.declared.group.Group.{Group}
use Rattle.cookie_agent.specs.declared.group.Group.TheVariants.{Domain, Site, Whole}
use Rattle.cookie_agent.proofs.LimitLemmas.{few_of_each, staying-all}
use Rattle.cookie_agent.proofs.RankLemmas.{counted-cons, counted-map, counted-moved, counted-same}
use Rattle.cookie_agent.proofs.TrimLemmas.{counted_itself}

-- ---- numbers

-- what isn't there from a place on is there at most so often
often-before : (s : ℕ) (xs : List ℕ) (m : ℕ) → ((j : ℕ) → m ≤ j → j < length xs → (get_or xs j 0 == s) ≡ false) → count_by (λ n. n == s) xs ≤ m
often-before s [] m none = omega arith
often-before s (x ∷ xs) zero none =
    let here = none 0 (omega arith) (omega arith) in
    let rest = often-before s xs zero (λ j from below. none (suc j) (omega arith) (omega (arith, below))) in
    let whole = counted-cons (λ n. n == s) x xs ∙ ap (λ b. cond b 1 0 + count_by (λ n. n == s) xs) here in
    omega (arith, rest, whole)
often-before s (x ∷ xs) (suc m) none =
    let rest = often-before s xs m (λ j from below. none (suc j) (omega (arith, from)) (omega (arith, below))) in
    by (x == s) rest (counted-cons (λ n. n == s) x xs)
  where
    by : (b : Bool) → count_by (λ n. n == s) xs ≤ m → count_by (λ n. n == s) (x ∷ xs) ≡ cond b 1 0 + count_by (λ n. n == s) xs → count_by (λ n. n == s) (x ∷ xs) ≤ suc m
    by true rest whole = omega (arith, rest, whole)
    by false rest whole = omega (arith, rest, whole)

unequal : (a b : ℕ) → (a == b) ≡ false → a ≡ b → ⊥
unequal a b e same = false≢true (sym e ∙ (Decides-eqb a b).1 same)

apart : (a b : ℕ) → (a ≡ b → ⊥) → (a == b) ≡ false
apart a b never = by (a == b) refl
  where
    by : (t : Bool) → (a == b) ≡ t → t ≡ false
    by true e = absurd (never ((Decides-eqb a b).0 e))
    by false e = refl

pub spread : (limit : ℕ) (xs : List ℕ) → ((i j : ℕ) → i ≤ j → j < length xs → get_or xs i 0 ≤ get_or xs j 0)
    → ((k : ℕ) → limit ≤ k → k < length xs → (get_or xs k 0 == get_or xs (k - limit) 0) ≡ false) → (s : ℕ) → count_by (λ n. n == s) xs ≤ limit
spread limit [] up far s = omega arith
spread limit (x ∷ xs) up far s =
    by (x == s) refl (spread limit xs (λ i j le below. up (suc i) (suc j) (omega (arith, le)) (omega (arith, below))) next s)
  where
    next : (k : ℕ) → limit ≤ k → k < length xs → (get_or xs k 0 == get_or xs (k - limit) 0) ≡ false
    next k from below =
        let back : suc k - limit ≡ suc (k - limit) = omega (arith, from) in
        ap (λ i. get_or xs k 0 == get_or (x ∷ xs) i 0) (sym back) ∙ far (suc k) (omega (arith, from)) (omega (arith, below))

    beyond : x ≡ s → (j : ℕ) → limit ≤ j → j < length (x ∷ xs) → (get_or (x ∷ xs) j 0 == s) ≡ false
    beyond same j from below =
        let none : limit - limit ≡ 0 = omega arith in
        let first = up 0 limit (omega arith) (omega (arith, from, below)) in
        let more = up limit j from below in
        let other = far limit (omega arith) (omega (arith, from, below)) in
        apart (get_or (x ∷ xs) j 0) s (λ e.
        unequal (get_or (x ∷ xs) limit 0) (get_or (x ∷ xs) (limit - limit) 0) other
        (omega (arith, first, more, e, same) ∙ ap (λ i. get_or (x ∷ xs) i 0) (sym none)))

    by : (b : Bool) → (x == s) ≡ b → count_by (λ n. n == s) xs ≤ limit → count_by (λ n. n == s) (x ∷ xs) ≤ limit
    by true e rest = often-before s (x ∷ xs) limit (beyond ((Decides-eqb x s).0 e))
    by false e rest =
        let whole = counted-cons (λ n. n == s) x xs ∙ ap (λ b. cond b 1 0 + count_by (λ n. n == s) xs) e in
        omega (arith, rest, whole)

-- ---- texts

counted-more : {X : Type 0} (p q : X → Bool) → ((x : X) → p x ≡ true → q x ≡ true) → (xs : List X) → count_by p xs ≤ count_by q xs
counted-more p q if [] = omega arith
counted-more p q if (x ∷ xs) = by (p x) refl (q x) refl (counted-more p q if xs)
  where
    by : (s : Bool) → p x ≡ s → (t : Bool) → q x ≡ t → count_by p xs ≤ count_by q xs → count_by p (x ∷ xs) ≤ count_by q (x ∷ xs)
    by s e t f rest = these s t (λ h. sym f ∙ if x (e ∙ h)) rest
        (counted-cons p x xs ∙ ap (λ b. cond b 1 0 + count_by p xs) e) (counted-cons q x xs ∙ ap (λ b. cond b 1 0 + count_by q xs) f)
      where
        these : (s t : Bool) → (s ≡ true → t ≡ true) → count_by p xs ≤ count_by q xs → count_by p (x ∷ xs) ≡ cond s 1 0 + count_by p xs → count_by q (x ∷ xs) ≡ cond t 1 0 + count_by q xs
            → count_by p (x ∷ xs) ≤ count_by q (x ∷ xs)
        these true true h r a b = omega (arith, r, a, b)
        these true false h r a b = absurd (false≢true (h refl))
        these false true h r a b = omega (arith, r, a, b)
        these false false h r a b = omega (arith, r, a, b)

-- a text is there as often as its sum at most
pub few-texts : (limit : ℕ) (items : List Rank) (sums sorted : List ℕ) → sums ≡ map (λ r. sum_of r.text []) items → IsPermutation sums sorted
    → ((s : ℕ) → count_by (λ n. n == s) sorted ≤ limit) → (text : List ℕ) → count_by (λ r. bytes_eq r.text text) items ≤ limit
few-texts limit items sums sorted is moved few text =
    let s = sum_of text [] in
    let less = counted-more (λ (r : Rank). bytes_eq r.text text) (λ (r : Rank). sum_of r.text [] == s)
    (λ r e. (Decides-eqb (sum_of r.text []) s).1 (ap (λ t. sum_of t []) ((bytes_eq-Decides r.text text).0 e))) items in
    let there = counted-moved (λ n. n == s) sums sorted moved ∙ ap (count_by (λ n. n == s)) is ∙ counted-map (λ n. n == s) (λ (r : Rank). sum_of r.text []) items in
    let most = few s in
    omega (arith, less, there, most)

-- ---- cookies of which all stay

module _ (rules : List Rule) (group : Group) (limit : ℕ) (store : CookieStore) (places : List ℕ)
    (few : (text : List ℕ) → count_by (λ r. bytes_eq r.text text) (map (rank_at (text_of rules group) store) places) ≤ limit) where
  by_text : (group : Group) (c other : KeptView) → counts (counted_by rules group) c other ≡ bytes_eq (text_of rules group other) (text_of rules group c)
  by_text Domain c other = refl
  by_text Site c other = refl
  by_text Whole c other = refl

  pub few-each : (c : KeptView) → count_by (counts (counted_by rules group) c) (picked store places) ≤ limit
  few-each c =
      let most = few (text_of rules group c) in
      let ranked = counted-map (λ (r : Rank). bytes_eq r.text (text_of rules group c)) (rank_at (text_of rules group) store) places in
      let there = counted-map (counts (counted_by rules group) c) (λ n. get_or store n blank) places
      ∙ counted-same (λ n. counts (counted_by rules group) c (get_or store n blank)) (λ n. bytes_eq (text_of rules group (get_or store n blank)) (text_of rules group c)) places
      (λ k d below. by_text group c (get_or store (get_or places k d) blank)) in
      omega (arith, most, ranked, there)

  pub each-stays : picked store places ≡ staying (counted_by rules group) limit [] (picked store places)
  each-stays =
      sym (staying-all (counted_by rules group) (counted_itself rules group) limit (picked store places)
      (few_of_each (counted_by rules group) limit (picked store places) few-each))
