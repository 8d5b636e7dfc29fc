-- Places that ascend, and the elements at them.
use Rattle.std.proofs.Common.{◌≡◌, ℕ, zero, suc, Bool, true, false, cond, ap, ◌+◌, ◌<◌, ◌≤◌, List, [], ◌∷◌, length, get_or, map, refl, subst, ◌∙◌, ⊎_elim, arith}
use Rattle.std.proofs.lemmas.Bool.{cases_eq, cases_order}
use Rattle.std.specs.List.{Contains, filter}
use Rattle.cookie_agent.specs.LimitsCode.{Ascends}

-- the places by their numbers
ascends-by_place : (n : ℕ) (ps : List ℕ) → Ascends n ps → (k d : ℕ) → k < length ps → n + k ≤ get_or ps k d
ascends-by_place n [] up k d below = absurd (omega (arith, below))
ascends-by_place n (p ∷ ps) up zero d below = let first = up.0 in omega (arith, first)
ascends-by_place n (p ∷ ps) up (suc k) d below =
    let first = up.0 in
    let rest = ascends-by_place (suc p) ps up.1 k d (omega (arith, below)) in
    omega (arith, first, rest)

pub rising-places : (n : ℕ) (ps : List ℕ) → Ascends n ps → (i j d : ℕ) → i < j → j < length ps → get_or ps i d < get_or ps j d
rising-places n [] up i j d lt below = absurd (omega (arith, below))
rising-places n (p ∷ ps) up zero zero d lt below = absurd (omega (arith, lt))
rising-places n (p ∷ ps) up zero (suc j) d lt below =
    let rest = ascends-by_place (suc p) ps up.1 j d (omega (arith, below)) in
    omega (arith, rest)
rising-places n (p ∷ ps) up (suc i) zero d lt below = absurd (omega (arith, lt))
rising-places n (p ∷ ps) up (suc i) (suc j) d lt below = rising-places (suc p) ps up.1 i j d (omega (arith, lt)) (omega (arith, below))

-- ---- what passes at places that ascend

ascends-contains : (n : ℕ) (ps : List ℕ) → Ascends n ps → (r : ℕ) → Contains ps r → n ≤ r
ascends-contains n ps up r (k, lt, e) = let more = ascends-by_place n ps up k r lt in omega (arith, more, e)

module _ {X : Type 0} (p : X → Bool) (b : X) (f : ℕ → X) where
  passed_over : (t : Bool) (x : X) (l m : List X) → (t ≡ true → ⊥) → l ≡ m → l ≡ cond t (x ∷ m) m
  passed_over true x l m not e = absurd (not refl)
  passed_over false x l m not e = e

  taken_too : (t : Bool) (x : X) (l m : List X) → l ≡ m → cond t (x ∷ l) l ≡ cond t (x ∷ m) m
  taken_too t x l m e = ap (λ k. cond t (x ∷ k) k) e

  further : (n : ℕ) (x : X) (xs : List X) → ((k : ℕ) → k < length (x ∷ xs) → f (n + k) ≡ get_or (x ∷ xs) k b) → (k : ℕ) → k < length xs → f (suc n + k) ≡ get_or xs k b
  further n x xs at k lt = let next : suc n + k ≡ n + suc k = omega arith in ap f next ∙ at (suc k) (omega (arith, lt))

  -- the first place is that of the first element
  here : (n : ℕ) (x : X) (xs : List X) (q : ℕ) (ps : List ℕ) → Ascends n (q ∷ ps) → ((r : ℕ) → n + length (x ∷ xs) ≤ r → p (f r) ≡ false) → ((k : ℕ) → k < length (x ∷ xs) → f (n + k) ≡ get_or (x ∷ xs) k b)
      → ((k : ℕ) → k < length (x ∷ xs) → p (get_or (x ∷ xs) k b) ≡ true → Contains (q ∷ ps) (n + k)) → q ≡ n
      → (Ascends (suc n) ps → ((r : ℕ) → suc n + length xs ≤ r → p (f r) ≡ false) → ((k : ℕ) → k < length xs → p (get_or xs k b) ≡ true → Contains ps (suc n + k)) → filter p (map f ps) ≡ filter p xs)
      → filter p (map f (q ∷ ps)) ≡ filter p (x ∷ xs)
  here n x xs q ps up far at has is rest =
      let start : q ≡ n + 0 = omega (arith, is) in
      let first : f q ≡ x = ap f start ∙ at 0 (omega arith) in
      let above : Ascends (suc n) ps = subst (λ m. Ascends (suc m) ps) is up.1 in
      ap (λ y. cond (p y) (y ∷ filter p (map f ps)) (filter p (map f ps))) first
      ∙ taken_too (p x) x (filter p (map f ps)) (filter p xs)
      (rest above (λ r le. far r (omega (arith, le)))
      (λ k lt passes. later k (has (suc k) (omega (arith, lt)) passes)))
    where
      later : (k : ℕ) → Contains (q ∷ ps) (n + suc k) → Contains ps (suc n + k)
      later k (zero, lt, e) = absurd (omega (arith, is, e))
      later k (suc j, lt, e) = let same : n + suc k ≡ suc n + k = omega arith in subst (Contains ps) same (j, omega (arith, lt), e)

  -- the first place is after it
  there : (n : ℕ) (x : X) (xs : List X) (q : ℕ) (ps : List ℕ) → Ascends n (q ∷ ps) → ((r : ℕ) → n + length (x ∷ xs) ≤ r → p (f r) ≡ false) → ((k : ℕ) → k < length (x ∷ xs) → f (n + k) ≡ get_or (x ∷ xs) k b)
      → ((k : ℕ) → k < length (x ∷ xs) → p (get_or (x ∷ xs) k b) ≡ true → Contains (q ∷ ps) (n + k)) → (q ≡ n → ⊥)
      → (Ascends (suc n) (q ∷ ps) → ((r : ℕ) → suc n + length xs ≤ r → p (f r) ≡ false) → ((k : ℕ) → k < length xs → p (get_or xs k b) ≡ true → Contains (q ∷ ps) (suc n + k)) → filter p (map f (q ∷ ps)) ≡ filter p xs)
      → filter p (map f (q ∷ ps)) ≡ filter p (x ∷ xs)
  there n x xs q ps up far at has other rest =
      let first = up.0 in
      let more : suc n ≤ q = ⊎_elim (λ is. absurd (other is)) (λ h. ⊎_elim (λ lt. absurd (omega (arith, lt, first))) (λ lt. omega (arith, lt)) h) (cases_order q n) in
      passed_over (p x) x (filter p (map f (q ∷ ps))) (filter p xs)
      (λ passes. let far = ascends-contains (suc n) (q ∷ ps) (more, up.1) (n + 0) (has 0 (omega arith) passes) in omega (arith, far))
      (rest (more, up.1) (λ r le. far r (omega (arith, le)))
      (λ k lt passes. let same : n + suc k ≡ suc n + k = omega arith in subst (Contains (q ∷ ps)) same (has (suc k) (omega (arith, lt)) passes)))

  -- after the last element nothing passes
  none_after : (n : ℕ) (ps : List ℕ) → Ascends n ps → ((r : ℕ) → n ≤ r → p (f r) ≡ false) → filter p (map f ps) ≡ []
  none_after n [] up far = refl
  none_after n (q ∷ ps) up far =
      let first = up.0 in
      ap (λ t. cond t (f q ∷ filter p (map f ps)) (filter p (map f ps))) (far q first) ∙ none_after (suc q) ps up.1 (λ r le. far r (omega (arith, first, le)))

  -- it is what passes, if the places have each element that does
  pub picked-passing : (n : ℕ) (xs : List X) (ps : List ℕ) → Ascends n ps → ((r : ℕ) → n + length xs ≤ r → p (f r) ≡ false) → ((k : ℕ) → k < length xs → f (n + k) ≡ get_or xs k b)
      → ((k : ℕ) → k < length xs → p (get_or xs k b) ≡ true → Contains ps (n + k)) → filter p (map f ps) ≡ filter p xs
  picked-passing n [] ps up far at has = none_after n ps up (λ r le. far r (omega (arith, le)))
  picked-passing n (x ∷ xs) [] up far at has =
      passed_over (p x) x [] (filter p xs) (λ passes. let none = has 0 (omega arith) passes in let lt = none.1 in omega (arith, lt))
      (picked-passing (suc n) xs [] tt (λ r le. far r (omega (arith, le))) (further n x xs at)
      (λ k lt passes. let none = has (suc k) (omega (arith, lt)) passes in let less = none.1 in absurd (omega (arith, less))))
  picked-passing n (x ∷ xs) (q ∷ ps) up far at has =
      ⊎_elim (λ is. here n x xs q ps up far at has is (λ above beyond more. picked-passing (suc n) xs ps above beyond (further n x xs at) more))
      (λ other. there n x xs q ps up far at has other (λ above beyond more. picked-passing (suc n) xs (q ∷ ps) above beyond (further n x xs at) more)) (cases_eq q n)
