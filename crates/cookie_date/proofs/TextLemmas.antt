-- What `{:02}` writes of a number below 100.
use Rattle.std.proofs.Common.{◌≡◌, ℕ, ◌-◌, ◌/◌, ◌%◌, ◌^◌, ◌<◌, false, [], arith, ⊎_elim}
use Rattle.std.proofs.lemmas.Bool.{cases_lt}
use Rattle.std.proofs.lemmas.Fmt.{decimal_digit, decimal_step}
use Rattle.std.specs.Fmt.{padded_integral, char_count, decimal, format_spec}
use Rattle.cookie_date.specs.Text.{two_digits}

-- it writes two digits
pub two_digits_padded : (n : ℕ) → n < 100
    → padded_integral (format_spec 32 0 4 2 (2 ^ 64 - 1)) false [] (decimal n) ≡ two_digits n
unfolding padded_integral char_count
two_digits_padded n small = ⊎_elim
    (λ one. let high : n / 10 ≡ 0 = omega arith in let low : n % 10 ≡ n = omega arith in rw (decimal_digit n one, high, low))
    (λ two. let fits : n < 2 ^ 64 = omega arith in let front : n / 10 < 10 = omega arith in rw (decimal_step n two fits, decimal_digit (n / 10) front))
    (cases_lt n 10)
