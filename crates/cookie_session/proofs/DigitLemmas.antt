-- A number is read from its digits.
use Rattle.std.proofs.Common.{◌≡◌, ℕ, ◌+◌, ◌*◌, ◌/◌, ◌%◌, ◌^◌, ◌<◌, [], ◌∷◌, fold, arith, ap, ◌∙◌}
use Rattle.std.proofs.lemmas.Fmt.{decimal_by_steps}
use Rattle.std.proofs.lemmas.List.Sums.{fold-append}
use Rattle.std.specs.Fmt.{decimal}

-- what a digit makes of the number before it
abbrev pub with_digit : ℕ → ℕ → ℕ
with_digit number digit = (number * 10 % 2 ^ 64 + digit % 16) % 2 ^ 64

first_digit : (n : ℕ) → n < 10 → with_digit 0 (48 + n) ≡ n
first_digit n below = omega arith

next_digit : (n : ℕ) → n < 2 ^ 64 → with_digit (n / 10) (48 + n % 10) ≡ n
next_digit n small = omega arith

-- the digits of a number give it
pub fold-decimal : (n : ℕ) → n < 2 ^ 64 → fold with_digit 0 (decimal n) ≡ n
fold-decimal n small = decimal_by_steps (λ m ds. m < 2 ^ 64 → fold with_digit 0 ds ≡ m) (λ m below fits. first_digit m below)
    (λ m ds ten before fits.
    fold-append with_digit 0 ds ((48 + m % 10) ∷ []) ∙ ap (λ k. with_digit k (48 + m % 10)) (before (omega arith)) ∙ next_digit m fits) n small small
