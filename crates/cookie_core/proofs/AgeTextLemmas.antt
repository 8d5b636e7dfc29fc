-- Ages that are printed and read.
use Rattle.std.proofs.Common.{◌≡◌, true, false, ℕ, ℤ, pos, negsuc, neg_ℤ, ◌*ℤ◌, ◌/◌, ◌<◌, ◌≤◌, ◌^◌, eqb, List, [], ◌∷◌, Some, option_map, refl, sym, ap, ◌∙◌, zero, suc, arith}
use Rattle.std.specs.Prelude.{int_div, int_lt}
use Rattle.std.specs.Char.{is_ascii_digit}
use Rattle.std.specs.Fmt.{signed_decimal, decimal}
use Rattle.std.specs.List.{list_all, starts_with}
use Rattle.std.specs.Str.Parse.{digits_value}
use Rattle.std.proofs.lemmas.Bool.{and_parts, cond-false}
use Rattle.std.proofs.lemmas.Bool.Decides.{nat_tests}
use Rattle.std.proofs.lemmas.Fmt.{digits_decimal, digits_value-decimal, decimal_nonempty}
use Rattle.jiff.proofs.SpanFacts.{signed_arith}
use Rattle.jiff.specs.Words.{IsDurationNanos}
use Rattle.cookie_core.specs.Attributes.{max_age_seconds, nanos_of_seconds}
use Rattle.cookie_core.specs.Normal.{whole_age}
use Rattle.cookie_core.specs.Text.{seconds_text}
use Rattle.cookie_core.proofs.AgeLemmas.{ascii_digits, seconds_of_digits-some}
use Rattle.cookie_core.proofs.ByteLemmas.{all-weaker}
use Rattle.cookie_core.proofs.EscapeTextLemmas.{is_token}

-- ---- decimal digits

digit_is_token : (b : ℕ) → is_ascii_digit b ≡ true → is_token b ≡ true
digit_is_token b h = grind (arith, nat_tests)

pub decimal_is_digits : (n : ℕ) → n < 2 ^ 64 → list_all is_ascii_digit (decimal n) ≡ true
decimal_is_digits n h = digits_decimal ascii_digits n h

pub decimal_is_tokens : (n : ℕ) → n < 2 ^ 64 → list_all is_token (decimal n) ≡ true
decimal_is_tokens n h = all-weaker is_ascii_digit is_token digit_is_token (decimal n) (decimal_is_digits n h)

-- ---- the printed seconds

no_minus : (ds : List ℕ) → list_all is_ascii_digit ds ≡ true → starts_with eqb ds (45 ∷ []) ≡ false
no_minus [] h = refl
no_minus (d ∷ ds) h =
    let k = (and_parts (is_ascii_digit d) (list_all is_ascii_digit ds) h).0 in
    grind (arith, nat_tests, k)

-- a number of seconds below zero is read as zero
abbrev pub natural : ℤ → ℕ
natural (pos k) = k
natural (negsuc k) = 0

-- seconds that a duration can have
abbrev pub CanBeSeconds : ℤ → Type 0
CanBeSeconds (pos k) = k ≤ 9223372036854775807
CanBeSeconds (negsuc k) = k ≤ 9223372036854775807

pub read_seconds : (s : ℤ) → CanBeSeconds s → max_age_seconds (signed_decimal s) ≡ Some (natural s)
read_seconds (pos k) h =
    let digits = decimal_is_digits k (omega arith) in
    let value : digits_value 10 (decimal k) ≡ k = digits_value-decimal ascii_digits k (omega arith) in
    let some = seconds_of_digits-some (decimal k) (decimal_nonempty k (omega arith)) digits in
    rw (no_minus (decimal k) digits) (some ∙ ap Some (rw value (omega arith)))
read_seconds (negsuc k) h =
    rw (seconds_of_digits-some (decimal (suc k)) (decimal_nonempty (suc k) (omega arith)) (decimal_is_digits (suc k) (omega arith))) refl

neg_fits : (q : ℕ) → q ≤ 9223372036854775808 → CanBeSeconds (neg_ℤ (pos q))
neg_fits zero h = omega arith
neg_fits (suc q) h = omega arith

natural_neg : (q : ℕ) → natural (neg_ℤ (pos q)) ≡ 0
natural_neg zero = refl
natural_neg (suc q) = refl

pub seconds_fit : (n : ℤ) → IsDurationNanos n → CanBeSeconds (int_div n (pos 1000000000))
seconds_fit (pos k) h = omega (arith, signed_arith, h.1)
seconds_fit (negsuc k) h = neg_fits (suc k / 1000000000) (omega (arith, signed_arith, h.0))

whole_age_seconds : (n : ℤ) → nanos_of_seconds (natural (int_div n (pos 1000000000))) ≡ whole_age n
whole_age_seconds (pos k) =
    let e : int_lt (pos k) (pos 0) ≡ false = grind (arith, nat_tests) in
    sym (cond-false _ (pos 0) (int_div (pos k) (pos 1000000000) *ℤ pos 1000000000) e)
whole_age_seconds (negsuc k) = rw (natural_neg (suc k / 1000000000)) refl

pub read_age : (n : ℤ) → IsDurationNanos n → option_map nanos_of_seconds (max_age_seconds (seconds_text n)) ≡ Some (whole_age n)
read_age n h =
    rw (read_seconds (int_div n (pos 1000000000)) (seconds_fit n h)) (ap Some (whole_age_seconds n))

signed_is_tokens : (s : ℤ) → CanBeSeconds s → list_all is_token (signed_decimal s) ≡ true
signed_is_tokens (pos k) h = decimal_is_tokens k (omega arith)
signed_is_tokens (negsuc k) h = rw (decimal_is_tokens (suc k) (omega arith)) refl

pub age_is_tokens : (n : ℤ) → IsDurationNanos n → list_all is_token (seconds_text n) ≡ true
age_is_tokens n h = signed_is_tokens (int_div n (pos 1000000000)) (seconds_fit n h)
