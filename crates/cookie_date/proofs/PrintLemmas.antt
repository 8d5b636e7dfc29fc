-- What is printed of a date-time is read as its date-time of the year rule.
use Rattle.std.proofs.Common.{◌≡◌, ℕ, ◌<◌, ◌≤◌, ◌⊎◌, ◌↔◌, false, List, [], ◌∷◌, ◌++◌, Option, Some, refl, sym, ap, ◌∙◌, subst, arith, inl, inr, suc, neg_ℤ, ℤ, pos, negsuc, ◌<ℤ◌, ◌≤ℤ◌, nat_lt, append_assoc}
use Rattle.std.proofs.lemmas.Bool.Decides.{nat_tests}
use Rattle.std.proofs.lemmas.Fmt.{decimal_is_IsNumeral, length-decimal-le}
use Rattle.std.specs.Fmt.{decimal, signed_decimal}
use Rattle.jiff.specs.Types.{DateTime, Date}
use Rattle.jiff.specs.Words.{IsYear, weekday_of, days_in_month}
use Rattle.jiff.proofs.Family.{weekday_number-day}
use Rattle.jiff.proofs.SpanFacts.{signed_arith}
use Rattle.cookie_date.specs.Names.{weekday_text}
use Rattle.cookie_date.specs.Text.{clock_text, moment_text}
use Rattle.cookie_date.proofs.YearLemmas.{year_rule, full_year-pos}
use Rattle.cookie_date.specs.Forms.{IsYearText, IsDateText, IsReadBack, day_first, full_year}

-- what is printed of a year is a year of a date text
printed_year : (year : ℤ) → IsYear year → IsYearText (signed_decimal year) year
printed_year (pos n) h =
    let small : n < 10000 = omega (arith, signed_arith, h) in
    let numeral = decimal_is_IsNumeral n (omega arith) in
    ([], decimal n, refl, numeral.0, length-decimal-le 4 n (omega arith) (omega arith) (omega arith), inl (refl, ap pos (sym numeral.1)))
printed_year (negsuc n) h =
    let small : n < 9999 = omega (arith, signed_arith, h) in
    let numeral = decimal_is_IsNumeral (suc n) (omega arith) in
    (45 ∷ [], decimal (suc n), refl, numeral.0, length-decimal-le 4 (suc n) (omega arith) (omega arith) (omega arith), inr (inr (refl, ap (λ k. neg_ℤ (pos k)) (sym numeral.1))))

weekday_bound : (date : Date) → weekday_of date < 7
weekday_bound date = omega (arith, weekday_number-day date.year date.month date.day date.day date.day_in.0 (omega arith))

-- a printed text stands for what is read back
pub printed_text : (d back : DateTime) → IsReadBack d back → IsDateText (moment_text d) back
printed_text d back r =
    let weekday = weekday_bound d.date in
    let year = signed_decimal d.date.year in
    let whole : moment_text d ≡ (weekday_text (weekday_of d.date) ++ 44 ∷ 32 ∷ []) ++ day_first (32 ∷ []) d.date.day d.date.month year (clock_text d.time.hour d.time.minute d.time.second) = sym (append_assoc (weekday_text (weekday_of d.date)) (44 ∷ 32 ∷ []) _) in (
      d.date.year,
      rw (r.1, r.2, r.3, r.4, r.5) (inl (weekday_text (weekday_of d.date) ++ 44 ∷ 32 ∷ [], year, inr (weekday_of d.date, weekday, refl), printed_year d.date.year d.date.year_in, whole)),
      r.0,
      r.6,
    )

-- and there is such a date-time
pub read_back : (d : DateTime) → (back : DateTime) × IsReadBack d back
read_back d =
    let rule = year_rule d.date.year d.date.year_in in
    let days : days_in_month (full_year d.date.year) d.date.month ≡ days_in_month d.date.year d.date.month = rw rule.1 refl in (
      record {
        date = record { year = full_year d.date.year; month = d.date.month; day = d.date.day; year_in = rule.0; month_in = d.date.month_in; day_in = rw days d.date.day_in };
        time = record { hour = d.time.hour; minute = d.time.minute; second = d.time.second; subsec_nanosecond = 0; hour_in = d.time.hour_in; minute_in = d.time.minute_in; second_in = d.time.second_in; subsec_in = omega arith };
      },
      (refl, refl, refl, refl, refl, refl, refl),
    )

-- a year outside 0 to 99 is kept
pub long_year : (year : ℤ) → (year <ℤ pos 0) ⊎ (pos 100 ≤ℤ year) → full_year year ≡ year
long_year (negsuc n) h = refl
long_year (pos n) h =
    let large : 100 ≤ n = omega (arith, signed_arith, h) in
    let recent : nat_lt n 70 ≡ false = grind (arith, nat_tests) in
    let old : nat_lt n 100 ≡ false = grind (arith, nat_tests) in
    full_year-pos n ∙ rw (recent, old) refl

-- an answer that is exact gives back what was printed
pub printed_is_read : (text : List ℕ) (o : Option DateTime) → ((d : DateTime) → (o ≡ Some d) ↔ IsDateText text d) → (d : DateTime) → text ≡ moment_text d → (back : DateTime) × (o ≡ Some back) × IsReadBack d back
printed_is_read text o exact d e =
    let (back, is) = read_back d in
    (back, (exact back).1 (subst (λ t. IsDateText t back) (sym e) (printed_text d back is)), is)
