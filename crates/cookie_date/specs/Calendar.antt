-- The dates of the calendar and the times of a clock, found from their parts.
use Rattle.std.specs.Prelude.{ℕ, suc, ◌+◌, ◌≤◌, ◌⊎◌, Option, Some, None, unwrap_or, ℤ, pos, neg_ℤ, ◌+ℤ◌, ◌≤ℤ◌}
use Rattle.std.proofs.Common.{inl, inr}
use Rattle.std.proofs.lemmas.Bool.{cases_lt}
use Rattle.std.proofs.lemmas.Int.{by_lt_z}
use Rattle.jiff.specs.Types.{Date, Time}
use Rattle.jiff.specs.Words.{days_in_month}
use Rattle.cookie_date.specs.Chains.{◌>>=◌}

-- the second of two facts, where that one was found to hold
abbrev pub second_fact : {P Q : Type 0} → P ⊎ Q → Option Q
second_fact (inl p) = None
second_fact (inr q) = Some q

-- a proof of m ≤ n, if it holds
abbrev pub at_most : (m n : ℕ) → Option (m ≤ n)
at_most m n = second_fact (cases_lt n m)

-- that a is at most b, if it is
abbrev pub int_at_most : (a b : ℤ) → Option (a ≤ℤ b)
int_at_most a b = second_fact (by_lt_z b a inl inr)

-- the date of this year, month and day, if the calendar has it
unfoldable pub date_at : ℤ → ℕ → ℕ → Option Date
date_at year month day = do
  from_first_year ← int_at_most (neg_ℤ (pos 9999)) year
  to_last_year ← int_at_most year (pos 9999)
  from_january ← at_most 1 month
  to_december ← at_most month 12
  from_first ← at_most 1 day
  to_last ← at_most day (days_in_month year month)
  Some (record {
    year = year;
    month = month;
    day = day;
    year_in = (from_first_year, to_last_year);
    month_in = (from_january, to_december);
    day_in = (from_first, to_last);
  })

-- the time of this hour, minute, second and nanosecond, if a clock shows it
unfoldable pub time_at : ℕ → ℕ → ℕ → ℕ → Option Time
time_at hour minute second nanosecond = do
  hour_in ← at_most (suc hour) 24
  minute_in ← at_most (suc minute) 60
  second_in ← at_most (suc second) 60
  subsec_in ← at_most (suc nanosecond) 1_000_000_000
  Some (record {
    hour = hour;
    minute = minute;
    second = second;
    subsec_nanosecond = nanosecond;
    hour_in = hour_in;
    minute_in = minute_in;
    second_in = second_in;
    subsec_in = subsec_in;
  })

-- the day after a date: in its month, in the next month or in the next year; the last date has none, and stays
unfoldable pub next_date : Date → Date
next_date d = unwrap_or (date_at d.year d.month (d.day + 1))
    (unwrap_or (date_at d.year (d.month + 1) 1) (unwrap_or (date_at (d.year +ℤ pos 1) 1 1) d))
