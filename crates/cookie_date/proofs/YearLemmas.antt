-- The reader of a year reads a sign, or none, and one to four digits, and nothing else.
use Rattle.std.proofs.Common.{◌≡◌, ℕ, zero, suc, ◌+◌, ◌-◌, ◌*◌, ◌<◌, ◌≤◌, ◌==◌, Bool, true, false, cond, List, [], ◌∷◌, ◌++◌, length, get_or, Some, refl, sym, ap, ◌∙◌, subst, arith, inl, inr, ℤ, pos, neg_ℤ, negsuc, nat_lt, ◌%◌, length-append, append_assoc, eqb-true, ne_eqb}
use Rattle.std.proofs.lemmas.Bool.{eqb-false}
use Rattle.std.proofs.lemmas.Bool.Decides.{nat_tests}
use Rattle.std.proofs.lemmas.Option.{same_Some}
use Rattle.std.proofs.lemmas.Str.{digit_value_digit}
use Rattle.std.proofs.lemmas.Str.Parse.{digit_from_value, digits_value_short, numerals_by_value, tells_digits}
use Rattle.std.specs.Str.Parse.{AllDigits, IsNumeral, digits_value, digits_value_after}
use Rattle.std.specs.Char.{digit_value}
use Rattle.std.specs.Int.{IsInRange, is_in_range}
use Rattle.jiff.proofs.SpanFacts.{signed_arith}
use Rattle.jiff.specs.Words.{IsYear, is_leap_year}
use Rattle.cookie_date.specs.Forms.{full_year, IsSigned, IsYearText}
use Rattle.cookie_date.specs.Reader.{read_digits, read_number, read_sign, read_year}
use Rattle.cookie_date.proofs.OptionLemmas.{through, not_stopped}

-- the text does not go on with a digit
abbrev pub NoDigit : List ℕ → Type 0
NoDigit text = is_in_range 48 57 (get_or text 0 0) ≡ false

pub read_digits-read : (k number : ℕ) (ds rest : List ℕ) → AllDigits 10 ds → length ds ≤ k → NoDigit rest → read_digits k number (ds ++ rest) ≡ (digits_value_after 10 number ds, rest)
read_digits-read zero number [] rest d l n = refl
read_digits-read zero number (c ∷ ds) rest d l n = absurd (omega arith)
read_digits-read (suc k) number [] [] d l n = refl
read_digits-read (suc k) number [] (c ∷ rest) d l n = rw n refl
read_digits-read (suc k) number (c ∷ ds) rest d l n =
    let digit = digit_from_value c d.0 in
    let test : is_in_range 48 57 c ≡ true = grind (arith, nat_tests) in
    let value : c - 48 ≡ digit_value c = omega (arith, digit_value_digit c digit) in
    rw test (ap (λ v. read_digits k (number * 10 + v) (ds ++ rest)) value ∙ read_digits-read k (number * 10 + digit_value c) ds rest d.1 (omega arith) n)

pub read_digits-front : (k number : ℕ) (text : List ℕ) → (ds : List ℕ) × (text ≡ ds ++ (read_digits k number text).1) × AllDigits 10 ds × (length ds ≤ k) × ((read_digits k number text).0 ≡ digits_value_after 10 number ds)
read_digits-front zero number text = ([], refl, tt, omega arith, refl)
read_digits-front (suc k) number [] = ([], refl, tt, omega arith, refl)
read_digits-front (suc k) number (c ∷ text) = go (is_in_range 48 57 c) refl (read_digits-front k (number * 10 + (c - 48)) text)
  where
    go : (b : Bool) → is_in_range 48 57 c ≡ b → (ds : List ℕ) × (text ≡ ds ++ (read_digits k (number * 10 + (c - 48)) text).1) × AllDigits 10 ds × (length ds ≤ k) × ((read_digits k (number * 10 + (c - 48)) text).0 ≡ digits_value_after 10 (number * 10 + (c - 48)) ds) → (ds : List ℕ) × (c ∷ text ≡ ds ++ (cond b (read_digits k (number * 10 + (c - 48)) text) (number, c ∷ text)).1) × AllDigits 10 ds × (length ds ≤ suc k) × ((cond b (read_digits k (number * 10 + (c - 48)) text) (number, c ∷ text)).0 ≡ digits_value_after 10 number ds)
    go false test more = ([], refl, tt, omega arith, refl)
    go true test (ds, shown, all, short, value) =
        let digit : IsInRange 48 57 c = grind (arith, nat_tests) in
        let same : c - 48 ≡ digit_value c = omega (arith, digit_value_digit c digit) in
        let small : digit_value c < 10 = omega (arith, digit_value_digit c digit) in
        (c ∷ ds, ap (λ t. c ∷ t) shown, (small, all), omega arith, value ∙ ap (λ v. digits_value_after 10 (number * 10 + v) ds) same)

read_number-read : (ds rest : List ℕ) → IsNumeral 10 ds → length ds ≤ 4 → NoDigit rest → read_number (ds ++ rest) ≡ Some (digits_value 10 ds, rest)
unfolding read_number
read_number-read ds rest numeral short n =
    let longer : (length rest == length (ds ++ rest)) ≡ false = ne_eqb _ _ (λ e. omega (arith, length-append ds rest, numeral.0)) in
    rw (read_digits-read 4 0 ds rest numeral.1 short n) (rw longer refl)

read_number-front : (text : List ℕ) (r : ℕ × List ℕ) → read_number text ≡ Some r → (ds : List ℕ) × (text ≡ ds ++ r.1) × IsNumeral 10 ds × (length ds ≤ 4) × (r.0 ≡ digits_value 10 ds)
unfolding read_number
read_number-front text r e =
    let (ds, shown, all, short, value) = read_digits-front 4 0 text in
    let (test, is) = not_stopped (length (read_digits 4 0 text).1 == length text) (Some (read_digits 4 0 text)) r e in
    let some : 0 < length ds = omega (arith, ap length shown, length-append ds (read_digits 4 0 text).1, eqb-false _ _ test) in
    subst (λ p. (ds : List ℕ) × (text ≡ ds ++ p.1) × IsNumeral 10 ds × (length ds ≤ 4) × (p.0 ≡ digits_value 10 ds)) (same_Some _ _ is) (ds, shown, (some, all), short, value)

sign-front : (text : List ℕ) (n : ℕ) → (sign : List ℕ) × (text ≡ sign ++ (read_sign text).1) × IsSigned sign n (cond (read_sign text).0 (neg_ℤ (pos n)) (pos n))
sign-front [] n = ([], refl, inl (refl, refl))
sign-front (c ∷ text) n = go (c == 45) (c == 43) refl refl
  where
    go : (minus plus : Bool) → (c == 45) ≡ minus → (c == 43) ≡ plus → (sign : List ℕ) × (c ∷ text ≡ sign ++ (cond {A = Bool × List ℕ} minus (true, text) (cond plus (false, text) (false, c ∷ text))).1) × IsSigned sign n (cond (cond {A = Bool × List ℕ} minus (true, text) (cond plus (false, text) (false, c ∷ text))).0 (neg_ℤ (pos n)) (pos n))
    go true plus e f = (45 ∷ [], ap (λ x. x ∷ text) (eqb-true _ _ e), inr (inr (refl, refl)))
    go false true e f = (43 ∷ [], ap (λ x. x ∷ text) (eqb-true _ _ f), inr (inl (refl, refl)))
    go false false e f = ([], refl, inl (refl, refl))

digits-unsigned : (ds rest : List ℕ) → IsNumeral 10 ds → read_sign (ds ++ rest) ≡ (false, ds ++ rest)
digits-unsigned [] rest n = absurd (omega (arith, n.0))
digits-unsigned (c ∷ ds) rest n =
    let digit = digit_from_value c n.1.0 in
    let minus : (c == 45) ≡ false = grind (arith, nat_tests) in
    let plus : (c == 43) ≡ false = grind (arith, nat_tests) in
    rw (minus, plus) refl

-- a year is read, where no digit follows it
pub year-read : (shown rest : List ℕ) (year : ℤ) → IsYearText shown year → NoDigit rest → read_year (shown ++ rest) ≡ Some (year, rest)
unfolding read_year
year-read shown rest year (sign, ds, written, numeral, short, inl (none, value)) n =
    rw (written, none, value) (rw (digits-unsigned ds rest numeral) (rw (read_number-read ds rest numeral short n) refl))
year-read shown rest year (sign, ds, written, numeral, short, inr (inl (plus, value))) n =
    rw (written, plus, value) (rw (read_number-read ds rest numeral short n) refl)
year-read shown rest year (sign, ds, written, numeral, short, inr (inr (minus, value))) n =
    rw (written, minus, value) (rw (read_number-read ds rest numeral short n) refl)

-- what is read as a year stands at the front
pub year-front : (text : List ℕ) (r : ℤ × List ℕ) → read_year text ≡ Some r → (shown : List ℕ) × (text ≡ shown ++ r.1) × IsYearText shown r.0
unfolding read_year
year-front text r e₀ =
    let (n, read, e₁) = through _ (read_number (read_sign text).1) r e₀ in
    let (ds, digits, numeral, short, is) = read_number-front (read_sign text).1 n read in
    let (sign, signed, means) = sign-front text n.0 in
    let whole : text ≡ (sign ++ ds) ++ n.1 = signed ∙ ap (λ t. sign ++ t) digits ∙ sym (append_assoc sign ds n.1) in
    let year : IsSigned sign (digits_value 10 ds) (cond (read_sign text).0 (neg_ℤ (pos n.0)) (pos n.0)) = subst (λ k. IsSigned sign k (cond (read_sign text).0 (neg_ℤ (pos n.0)) (pos n.0))) is means in
    subst (λ p. (shown : List ℕ) × (text ≡ shown ++ p.1) × IsYearText shown p.0) (same_Some _ _ e₁) (sign ++ ds, whole, (sign, ds, refl, numeral, short, year))

numeral_small : (ds : List ℕ) → IsNumeral 10 ds → length ds ≤ 4 → digits_value 10 ds < 10000
numeral_small ds numeral short = digits_value_short (numerals_by_value _ tells_digits) ds 4 numeral.1 short

-- and it is a year of the calendar
pub year_range : (shown : List ℕ) (year : ℤ) → IsYearText shown year → IsYear year
year_range shown year (sign, ds, written, numeral, short, inl (none, value)) = omega (arith, signed_arith, value, numeral_small ds numeral short)
year_range shown year (sign, ds, written, numeral, short, inr (inl (plus, value))) = omega (arith, signed_arith, value, numeral_small ds numeral short)
year_range shown year (sign, ds, written, numeral, short, inr (inr (minus, value))) = omega (arith, signed_arith, value, numeral_small ds numeral short)

-- the year rule at a year from 0 on
pub full_year-pos : (n : ℕ) → full_year (pos n) ≡ cond (nat_lt n 70) (pos (n + 2000)) (cond (nat_lt n 100) (pos (n + 1900)) (pos n))
full_year-pos n = let none : nat_lt n 0 ≡ false = grind (arith, nat_tests) in rw none refl

-- the year rule changes neither whether there is such a year, nor whether it is a leap year
pub year_rule : (year : ℤ) → IsYear year → IsYear (full_year year) × (is_leap_year (full_year year) ≡ is_leap_year year)
year_rule (negsuc n) h = (h, refl)
year_rule (pos n) h = rw (full_year-pos n) (go (nat_lt n 70) (nat_lt n 100) refl refl)
  where
    go : (recent old : Bool) → nat_lt n 70 ≡ recent → nat_lt n 100 ≡ old → IsYear (cond recent (pos (n + 2000)) (cond old (pos (n + 1900)) (pos n))) × (is_leap_year (cond recent (pos (n + 2000)) (cond old (pos (n + 1900)) (pos n))) ≡ is_leap_year (pos n))
    go true old e f =
        let small : n < 70 = grind (arith, nat_tests) in
        let four : (n + 2000) % 4 ≡ n % 4 = omega arith in
        let hundred : (n + 2000) % 100 ≡ n % 100 = omega arith in
        let cycle : (n + 2000) % 400 ≡ n % 400 = omega arith in
        (omega (arith, signed_arith), rw (four, hundred, cycle) refl)
    go false true e f =
        let large : 70 ≤ n = grind (arith, nat_tests) in
        let small : n < 100 = grind (arith, nat_tests) in
        let four : (n + 1900) % 4 ≡ n % 4 = omega arith in
        let hundred : ((n + 1900) % 100 == 0) ≡ false = grind (arith, nat_tests) in
        let own : (n % 100 == 0) ≡ false = grind (arith, nat_tests) in
        (omega (arith, signed_arith), rw (four, hundred, own) refl)
    go false false e f = (h, refl)
