-- Which dates and times `date_at` and `time_at` find, and that the next date is one day later.
use Rattle.std.proofs.Common.{◌≡◌, ℕ, suc, ◌+◌, ◌<◌, ◌≤◌, ◌⊎◌, Option, Some, None, unwrap_or, refl, sym, ap, ◌∙◌, arith, rules, ℤ, pos, neg_ℤ, ◌+ℤ◌, ◌<ℤ◌, ◌≤ℤ◌, inl, inr}
use Rattle.std.proofs.lemmas.Bool.{cases_lt}
use Rattle.std.proofs.lemmas.Bool.Decides.{nat_tests}
use Rattle.std.proofs.lemmas.Int.{by_lt_z}
use Rattle.std.proofs.lemmas.Option.{same_Some, none-some}
use Rattle.std.specs.Int.{IsInRange}
use Rattle.jiff.specs.Types.{Date, Time}
use Rattle.jiff.specs.Words.{epoch_day, days_in_month, IsYear}
use Rattle.jiff.proofs.Family.{days_from_civil-day, days_from_civil-next_month, days_from_civil-next_year, days_from_civil-max, epoch_day_same}
use Rattle.jiff.proofs.SpanFacts.{signed_arith}
use Rattle.cookie_date.specs.Calendar.{second_fact, at_most, int_at_most, date_at, time_at, next_date}
use Rattle.cookie_date.proofs.OptionLemmas.{through}

second_fact-found : {P Q : Type 0} (c : P ⊎ Q) → ¬ P → (q : Q) × (second_fact c ≡ Some q)
second_fact-found (inl p) apart = absurd (apart p)
second_fact-found (inr q) apart = (q, refl)

at_most-found : (m n : ℕ) → m ≤ n → (h : m ≤ n) × (at_most m n ≡ Some h)
at_most-found m n h = second_fact-found (cases_lt n m) (λ above. omega arith)

int_at_most-found : (a b : ℤ) → a ≤ℤ b → (h : a ≤ℤ b) × (int_at_most a b ≡ Some h)
int_at_most-found a b h = second_fact-found (by_lt_z b a inl inr) (λ above. omega (arith, signed_arith))

-- a date that the calendar has is found
pub date_at-found : (year : ℤ) (month day : ℕ) → IsYear year → IsInRange 1 12 month → IsInRange 1 (days_in_month year month) day → (d : Date) × (date_at year month day ≡ Some d)
unfolding date_at
date_at-found year month day year_in month_in day_in =
    let (a, is_a) = int_at_most-found (neg_ℤ (pos 9999)) year year_in.0 in
    let (b, is_b) = int_at_most-found year (pos 9999) year_in.1 in
    let (c, is_c) = at_most-found 1 month month_in.0 in
    let (d, is_d) = at_most-found month 12 month_in.1 in
    let (e, is_e) = at_most-found 1 day day_in.0 in
    let (f, is_f) = at_most-found day (days_in_month year month) day_in.1 in (
      record { year = year; month = month; day = day; year_in = (a, b); month_in = (c, d); day_in = (e, f) },
      rw (is_a, is_b, is_c, is_d, is_e, is_f) refl,
    )

-- what is found has these parts
pub date_at-parts : (year : ℤ) (month day : ℕ) (d : Date) → date_at year month day ≡ Some d → (d.year ≡ year) × (d.month ≡ month) × (d.day ≡ day)
unfolding date_at
date_at-parts year month day d e₀ =
    let (a, is_a, e₁) = through _ (int_at_most (neg_ℤ (pos 9999)) year) d e₀ in
    let (b, is_b, e₂) = through _ (int_at_most year (pos 9999)) d e₁ in
    let (c, is_c, e₃) = through _ (at_most 1 month) d e₂ in
    let (f, is_f, e₄) = through _ (at_most month 12) d e₃ in
    let (g, is_g, e₅) = through _ (at_most 1 day) d e₄ in
    let (h, is_h, e₆) = through _ (at_most day (days_in_month year month)) d e₅ in
    let same = same_Some _ _ e₆ in
    (sym (ap (λ x. x.year) same), sym (ap (λ x. x.month) same), sym (ap (λ x. x.day) same))

-- a time that a clock shows is found
pub time_at-found : (hour minute second nanosecond : ℕ) → hour < 24 → minute < 60 → second < 60 → nanosecond < 1_000_000_000 → (t : Time) × (time_at hour minute second nanosecond ≡ Some t)
unfolding time_at
time_at-found hour minute second nanosecond h m s n =
    let (a, is_a) = at_most-found (suc hour) 24 h in
    let (b, is_b) = at_most-found (suc minute) 60 m in
    let (c, is_c) = at_most-found (suc second) 60 s in
    let (d, is_d) = at_most-found (suc nanosecond) 1_000_000_000 n in (
      record { hour = hour; minute = minute; second = second; subsec_nanosecond = nanosecond; hour_in = a; minute_in = b; second_in = c; subsec_in = d },
      rw (is_a, is_b, is_c, is_d) refl,
    )

-- what is found has these parts
pub time_at-parts : (hour minute second nanosecond : ℕ) (t : Time) → time_at hour minute second nanosecond ≡ Some t → (t.hour ≡ hour) × (t.minute ≡ minute) × (t.second ≡ second) × (t.subsec_nanosecond ≡ nanosecond)
unfolding time_at
time_at-parts hour minute second nanosecond t e₀ =
    let (a, is_a, e₁) = through _ (at_most (suc hour) 24) t e₀ in
    let (b, is_b, e₂) = through _ (at_most (suc minute) 60) t e₁ in
    let (c, is_c, e₃) = through _ (at_most (suc second) 60) t e₂ in
    let (d, is_d, e₄) = through _ (at_most (suc nanosecond) 1_000_000_000) t e₃ in
    let same = same_Some _ _ e₄ in
    (sym (ap (λ x. x.hour) same), sym (ap (λ x. x.minute) same), sym (ap (λ x. x.second) same), sym (ap (λ x. x.subsec_nanosecond) same))

-- a month has at most 31 days
pub day_bound : (year : ℤ) (month : ℕ) → days_in_month year month ≤ 31
day_bound year month = grind (arith, nat_tests)

month_has_days : (year : ℤ) (month : ℕ) → 1 ≤ days_in_month year month
month_has_days year month = grind (arith, nat_tests)

day_in_month : (d a : Date) → date_at d.year d.month (d.day + 1) ≡ Some a → epoch_day a ≡ epoch_day d +ℤ pos 1
day_in_month d a e =
    let is = date_at-parts d.year d.month (d.day + 1) a e in
    let step = days_from_civil-day d.year d.month d.day (d.day + 1) d.day_in.0 (omega arith) in
    rw (is.0, is.1, is.2) (omega (arith, signed_arith))

last_of_month : (d : Date) → date_at d.year d.month (d.day + 1) ≡ None → d.day ≡ days_in_month d.year d.month
last_of_month d e = elim (cases_lt d.day (days_in_month d.year d.month)) [
  | inl more ↦ absurd (none-some _ (sym e ∙ (date_at-found d.year d.month (d.day + 1) d.year_in d.month_in (omega arith, omega arith)).1))
  | inr last ↦ omega (arith, d.day_in)
]

day_of_next_month : (d a : Date) → d.day ≡ days_in_month d.year d.month → date_at d.year (d.month + 1) 1 ≡ Some a → epoch_day a ≡ epoch_day d +ℤ pos 1
day_of_next_month d a last e =
    let is = date_at-parts d.year (d.month + 1) 1 a e in
    rw (is.0, is.1, is.2) (days_from_civil-next_month d.year d.month d.day d.month_in.0 last)

last_of_year : (d : Date) → date_at d.year (d.month + 1) 1 ≡ None → d.month ≡ 12
last_of_year d e = elim (cases_lt d.month 12) [
  | inl more ↦ absurd (none-some _ (sym e ∙ (date_at-found d.year (d.month + 1) 1 d.year_in (omega arith, omega arith) (omega arith, month_has_days d.year (d.month + 1))).1))
  | inr december ↦ omega (arith, d.month_in)
]

day_of_next_year : (d a : Date) → d.month ≡ 12 → d.day ≡ 31 → date_at (d.year +ℤ pos 1) 1 1 ≡ Some a → epoch_day a ≡ epoch_day d +ℤ pos 1
day_of_next_year d a month day e =
    let is = date_at-parts (d.year +ℤ pos 1) 1 1 a e in
    let eve : Date = record { year = d.year; month = 12; day = 31; year_in = d.year_in; month_in = search rules; day_in = search rules } in
    let step = days_from_civil-next_year d.year (d.year +ℤ pos 1) (omega (arith, signed_arith, d.year_in)) refl in
    rw (is.0, is.1, is.2) (step ∙ ap (λ z. z +ℤ pos 1) (epoch_day_same eve d refl (sym month) (sym day)))

last_of_all : (d : Date) → d.month ≡ 12 → d.day ≡ 31 → date_at (d.year +ℤ pos 1) 1 1 ≡ None → epoch_day d ≡ pos 2_932_896
last_of_all d month day e =
    let last : Date = record { year = pos 9999; month = 12; day = 31; year_in = search rules; month_in = search rules; day_in = search rules } in
    by_lt_z d.year (pos 9999)
    (λ more. absurd (none-some _ (sym e ∙ (date_at-found (d.year +ℤ pos 1) 1 1 (omega (arith, signed_arith, d.year_in)) (search rules) (omega arith, month_has_days (d.year +ℤ pos 1) 1)).1)))
    (λ full. epoch_day_same d last (omega (arith, signed_arith, d.year_in)) month day ∙ days_from_civil-max)

-- the next date is one day later, where the calendar goes on
pub epoch_day-next_date : (d : Date) → epoch_day d <ℤ pos 2_932_896 → epoch_day (next_date d) ≡ epoch_day d +ℤ pos 1
unfolding next_date
epoch_day-next_date d more = go (date_at d.year d.month (d.day + 1)) (date_at d.year (d.month + 1) 1) (date_at (d.year +ℤ pos 1) 1 1) refl refl refl
  where
    go : (a b c : Option Date) → date_at d.year d.month (d.day + 1) ≡ a → date_at d.year (d.month + 1) 1 ≡ b → date_at (d.year +ℤ pos 1) 1 1 ≡ c → epoch_day (unwrap_or a (unwrap_or b (unwrap_or c d))) ≡ epoch_day d +ℤ pos 1
    go (Some a) b c is_a is_b is_c = day_in_month d a is_a
    go None (Some b) c is_a is_b is_c = day_of_next_month d b (last_of_month d is_a) is_b
    go None None c is_a is_b is_c = over_year c is_c
      where
        month : d.month ≡ 12
        month = last_of_year d is_b

        day : d.day ≡ 31
        day = last_of_month d is_a ∙ (rw month refl)

        over_year : (c : Option Date) → date_at (d.year +ℤ pos 1) 1 1 ≡ c → epoch_day (unwrap_or c d) ≡ epoch_day d +ℤ pos 1
        over_year (Some c) e = day_of_next_year d c month day e
        over_year None e = absurd (omega (arith, signed_arith, last_of_all d month day e))
