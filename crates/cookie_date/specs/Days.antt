-- Days added to a date-time, between the first and the last date-time of the calendar.
use Rattle.std.specs.Prelude.{◌≡◌, ℤ, pos, neg_ℤ, ◌+ℤ◌, ◌<ℤ◌}
use Rattle.jiff.specs.Types.{DateTime}
use Rattle.jiff.specs.Words.{epoch_day, IsEpochDay, IsFirstDate, IsLastDate, time_nanos}

-- -9999-01-01 00:00:00
abbrev pub IsFirstMoment : DateTime → Type 0
IsFirstMoment m = IsFirstDate m.date × (time_nanos m.time ≡ 0)

-- 9999-12-31 23:59:59.999999999
abbrev pub IsLastMoment : DateTime → Type 0
IsLastMoment m = IsLastDate m.date × (time_nanos m.time ≡ 86_399_999_999_999)

-- the same time of day this many days later, or the end of the calendar that the days lead past
pub record IsDaysLater (moment : DateTime) (days : ℤ) (later : DateTime) : Type 0 where
  pub within : IsEpochDay (epoch_day moment.date +ℤ days)
      → (epoch_day later.date ≡ epoch_day moment.date +ℤ days) × (later.time ≡ moment.time)
  pub above : pos 2_932_896 <ℤ (epoch_day moment.date +ℤ days) → IsLastMoment later
  pub below : (epoch_day moment.date +ℤ days) <ℤ neg_ℤ (pos 4_371_587) → IsFirstMoment later
