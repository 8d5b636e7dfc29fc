-- The date-time that a text stands for, and the one that lies some days later, as functions.
use Rattle.std.specs.Prelude.{ℕ, zero, suc, List, Option, Some, ℤ, pos, neg_ℤ, ◌+ℤ◌, int_lt, unsigned_abs, if◌then◌else◌}
use Rattle.std.proofs.Common.{lit<, lit≤}
use Rattle.jiff.specs.Types.{DateTime, Date}
use Rattle.jiff.specs.Words.{epoch_day}
use Rattle.cookie_date.specs.Forms.{full_year}
use Rattle.cookie_date.specs.Calendar.{date_at, time_at, next_date}
use Rattle.cookie_date.specs.Reader.{read_fields}
use Rattle.cookie_date.specs.Chains.{◌>>=◌}

-- The date-time that a text stands for, or `None` where it stands for none. That it is exactly the one of
-- `IsDateText` is the lemma `date_of-is` of proofs/DateLemmas.
unfoldable pub date_of : List ℕ → Option DateTime
date_of text = do
  fields ← read_fields text
  date ← date_at (full_year fields.year) fields.month fields.day
  time ← time_at fields.hour fields.minute fields.second 0
  Some (record { date = date; time = time })

-- the date this many days after another
unfoldable pub date_later : Date → ℕ → Date
date_later first zero = first
date_later first (suc days) = next_date (date_later first days)

-- the first date-time of the calendar, -9999-01-01 00:00:00
unfoldable pub first_moment : DateTime
first_moment = record {
  date = record {
    year = neg_ℤ (pos 9999);
    month = 1;
    day = 1;
    year_in = (record { le = tt }, record { le = tt });
    month_in = (lit≤ tt, lit≤ tt);
    day_in = (lit≤ tt, lit≤ tt);
  };
  time = record {
    hour = 0;
    minute = 0;
    second = 0;
    subsec_nanosecond = 0;
    hour_in = lit< tt;
    minute_in = lit< tt;
    second_in = lit< tt;
    subsec_in = lit< tt;
  };
}

-- the last one, 9999-12-31 23:59:59.999999999
unfoldable pub last_moment : DateTime
last_moment = record {
  date = record {
    year = pos 9999;
    month = 12;
    day = 31;
    year_in = (record { le = tt }, record { le = tt });
    month_in = (lit≤ tt, lit≤ tt);
    day_in = (lit≤ tt, lit≤ tt);
  };
  time = record {
    hour = 23;
    minute = 59;
    second = 59;
    subsec_nanosecond = 999_999_999;
    hour_in = lit< tt;
    minute_in = lit< tt;
    second_in = lit< tt;
    subsec_in = lit< tt;
  };
}

-- The date-time this many days later, found by counting from the first date of the calendar. That it is exactly the
-- one of `IsDaysLater` is the lemmas `days_later-is` and `days_later-only` of proofs/DayLemmas.
unfoldable pub days_later : DateTime → ℤ → DateTime
days_later moment days =
    let day = epoch_day moment.date +ℤ days in
    if int_lt day (neg_ℤ (pos 4_371_587)) then first_moment
    else if int_lt (pos 2_932_896) day then last_moment
    else record {
      date = date_later first_moment.date (unsigned_abs (day +ℤ pos 4_371_587));
      time = moment.time;
    }
