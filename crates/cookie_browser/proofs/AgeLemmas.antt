-- The digits of an age are text.
use Rattle.std.proofs.Common.{◌≡◌, Bool, true, false, ℕ, List, [], ◌∷◌, None, IsUtf8, refl, arith}
use Rattle.std.proofs.lemmas.Bool.{and_parts, cond-false}
use Rattle.std.proofs.lemmas.Bool.Decides.{nat_tests}
use Rattle.std.proofs.lemmas.Fmt.{IsAscii-from_digits}
use Rattle.std.proofs.lemmas.Str.{IsUtf8-from_ascii, digit_value_digit}
use Rattle.std.specs.Char.{is_ascii_digit}
use Rattle.std.specs.Int.{IsInRange}
use Rattle.std.specs.List.{list_all}
use Rattle.std.specs.Str.Parse.{AllDigits}
use Rattle.cookie_core.specs.Attributes.{seconds_of_digits}

digits : (ds : List ℕ) → list_all is_ascii_digit ds ≡ true → AllDigits 10 ds
digits [] h = tt
digits (d ∷ ds) h =
    let at = and_parts (is_ascii_digit d) (list_all is_ascii_digit ds) h in
    let is : is_ascii_digit d ≡ true = at.0 in
    let range : IsInRange 48 57 d = grind (arith, nat_tests) in
    let value = digit_value_digit d range in
    (omega (arith, value, range), digits ds at.1)

pub seconds_of_digits-text : (ds : List ℕ) → ¬ (IsUtf8 ds) → seconds_of_digits ds ≡ None
seconds_of_digits-text [] other = refl
seconds_of_digits-text (d ∷ ds) other = by (list_all is_ascii_digit (d ∷ ds)) refl
  where
    by : (all : Bool) → list_all is_ascii_digit (d ∷ ds) ≡ all → seconds_of_digits (d ∷ ds) ≡ None
    by true e = absurd (other (IsUtf8-from_ascii (d ∷ ds) (IsAscii-from_digits (d ∷ ds) (digits (d ∷ ds) e))))
    by false e = cond-false _ _ _ e
