-- Stored cookies that pass a test, and how many do.
use Rattle.std.proofs.Common.{◌≡◌, ℕ, ◌+◌, Bool, true, false, cond, [], ◌∷◌, length, refl, sym, ◌∙◌, All, arith}
use Rattle.std.proofs.lemmas.Bool.{false≢true}
use Rattle.std.proofs.lemmas.List.Elements.{All-nil, All-cons, All-head, All-tail}
use Rattle.std.proofs.lemmas.List.Sorted.{sum_by-IsPermutation}
use Rattle.std.proofs.lemmas.List.Sums.{sum_by-cons}
use Rattle.std.specs.List.{filter, sum_by}
use Rattle.std.specs.Prelude.{IsPermutation}
use Rattle.cookie_browser.specs.Storage.{KeptView, CookieStore}

module _ (p : KeptView → Bool) where
  pub passing : (P : KeptView → Type 0) (xs : CookieStore) → All (λ c. p c ≡ true → P c) xs → All P (filter p xs)
  passing P [] all = All-nil P
  passing P (c ∷ xs) all = by (passing P xs (All-tail (λ d. p d ≡ true → P d) c xs all)) (p c) refl
    where
      by : All P (filter p xs) → (b : Bool) → p c ≡ b → All P (cond b (c ∷ filter p xs) (filter p xs))
      by rest true e = All-cons P c (filter p xs) (All-head (λ d. p d ≡ true → P d) c xs all e) rest
      by rest false e = rest

  pub passed : (P : KeptView → Type 0) (xs : CookieStore) → All P (filter p xs) → All (λ c. p c ≡ true → P c) xs
  passed P [] all = All-nil (λ c. p c ≡ true → P c)
  passed P (c ∷ xs) all = by (passed P xs) (p c) refl all
    where
      by : (All P (filter p xs) → All (λ d. p d ≡ true → P d) xs) → (b : Bool) → p c ≡ b → All P (cond b (c ∷ filter p xs) (filter p xs)) → All (λ d. p d ≡ true → P d) (c ∷ xs)
      by rest true e h = All-cons (λ d. p d ≡ true → P d) c xs (λ _. All-head P c (filter p xs) h) (rest (All-tail P c (filter p xs) h))
      by rest false e h = All-cons (λ d. p d ≡ true → P d) c xs (λ f. absurd (false≢true (sym e ∙ f))) (rest h)

  abbrev one : KeptView → ℕ
  one c = cond (p c) 1 0

  counted : (xs : CookieStore) → length (filter p xs) ≡ sum_by one xs
  counted [] = refl
  counted (c ∷ xs) = by (counted xs) (p c) ∙ sym (sum_by-cons one c xs)
    where
      by : length (filter p xs) ≡ sum_by one xs → (b : Bool) → length (cond b (c ∷ filter p xs) (filter p xs)) ≡ cond b 1 0 + sum_by one xs
      by e true = omega arith
      by e false = omega arith

  pub same_length : (xs ys : CookieStore) → IsPermutation xs ys → length (filter p ys) ≡ length (filter p xs)
  same_length xs ys moved = counted ys ∙ sum_by-IsPermutation one xs ys moved ∙ sym (counted xs)
