-- The number of an age.
use Rattle.std.proofs.Common.{◌≡◌, ℕ, ◌<◌, ◌^◌, min, List, [], ◌∷◌, length, true, Some, refl, ap, ◌∙◌, inl, inr, arith, rules}
use Rattle.std.specs.Char.{is_ascii_digit}
use Rattle.std.specs.List.{list_all}
use Rattle.std.specs.Str.Parse.{digits_value}
use Rattle.std.proofs.lemmas.Bool.{cases_lt}
use Rattle.std.proofs.lemmas.Str.Parse.{IsNumeralModel, numerals_by_value}
use Rattle.cookie_core.specs.Attributes.{seconds_of_digits}

pub ascii_digits : IsNumeralModel (λ ds. list_all is_ascii_digit ds ≡ true) (digits_value 10)
ascii_digits = numerals_by_value _ (search rules)

pub seconds_of_digits-some : (ds : List ℕ) → 0 < length ds → list_all is_ascii_digit ds ≡ true → seconds_of_digits ds ≡ Some (min (digits_value 10 ds) 9223372036854775807)
seconds_of_digits-some [] some h = absurd (omega arith)
seconds_of_digits-some (d ∷ ds) some h = rw h refl

pub seconds_of_digits-greatest : (ds : List ℕ) → 0 < length ds → list_all is_ascii_digit ds ≡ true → ¬ ((0 < length ds) × (digits_value 10 ds < 2 ^ 63)) → seconds_of_digits ds ≡ Some 9223372036854775807
seconds_of_digits-greatest ds some h past =
    seconds_of_digits-some ds some h
    ∙ elim (cases_lt (digits_value 10 ds) (2 ^ 63)) [ inl lt ↦ absurd (past (some, lt)) | inr ge ↦ ap Some (omega arith) ]
