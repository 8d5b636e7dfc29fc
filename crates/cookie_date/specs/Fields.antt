-- Mirrors private code: the date-time that the fields of a written date stand for.
use Rattle.std.specs.Prelude.{◌≡◌, ◌<◌, pos}
use Rattle.jiff.specs.Types.{DateTime}
use Rattle.jiff.specs.Words.{IsDate}
use Rattle.cookie_date.specs.declared.fields.Fields.{Fields}
use Rattle.cookie_date.specs.Forms.{full_year}

-- the calendar has the day, and a clock shows the time
abbrev pub Exists : Fields → Type 0
Exists f =
    IsDate (full_year f.year) (pos f.month) (pos f.day) × (f.hour < 24) × (f.minute < 60)
    × (f.second < 60)

-- the date-time has these fields, after the year rule
abbrev pub HasFields : Fields → DateTime → Type 0
HasFields f m = (m.date.year ≡ full_year f.year) × (m.date.month ≡ f.month) × (m.date.day ≡ f.day)
    × (m.time.hour ≡ f.hour) × (m.time.minute ≡ f.minute) × (m.time.second ≡ f.second)
    × (m.time.subsec_nanosecond ≡ 0)
