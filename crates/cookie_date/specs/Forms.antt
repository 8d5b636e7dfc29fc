-- The texts that stand for a date-time. There are four forms, a part in brackets being optional:
--   1.  [Www, ]DD Mon Y hh:mm:ss GMT
--   2.  [Weekday, ]DD-Mon-YY hh:mm:ss GMT
--   3.  [Www ]Mon _D hh:mm:ss Y
--   4.  [Www, ]DD-Mon-Y hh:mm:ss GMT
-- The weekday can be any of the seven; it isn't compared with the date.
use Rattle.std.specs.Prelude.{◌≡◌, ℕ, ◌+◌, ◌<◌, ◌≤◌, ◌⊎◌, List, [], ◌∷◌, ◌++◌, length, codes, ℤ, pos, neg_ℤ, ◌+ℤ◌, int_lt, ◌↔◌, Option, Some, if◌then◌else◌}
use Rattle.std.specs.Str.Parse.{IsNumeral, digits_value}
use Rattle.jiff.specs.Types.{DateTime}
use Rattle.cookie_date.specs.Names.{weekday_text, long_weekday_text, month_text}
use Rattle.cookie_date.specs.Text.{two_digits, clock_text}

-- The year rule (RFC 6265 5.1.1, steps 3 and 4): 0 to 69 means 2000 to 2069, 70 to 99 means 1970 to 1999, and any
-- other year itself.
abbrev pub full_year : ℤ → ℤ
full_year year = if int_lt year (pos 0) then year
    else if int_lt year (pos 70) then year +ℤ pos 2000
    else if int_lt year (pos 100) then year +ℤ pos 1900 else year

-- a sign, or none, and what it makes of a number
abbrev pub IsSigned : List ℕ → ℕ → ℤ → Type 0
IsSigned sign number z = ((sign ≡ []) × (z ≡ pos number)) ⊎ (((sign ≡ codes "+") × (z ≡ pos number))
    ⊎ ((sign ≡ codes "-") × (z ≡ neg_ℤ (pos number))))

-- `Y`: a sign, or none, and one to four digits
abbrev pub IsYearText : List ℕ → ℤ → Type 0
IsYearText text year = (sign : List ℕ) × (digits : List ℕ) × (text ≡ sign ++ digits)
    × IsNumeral 10 digits × (length digits ≤ 4) × IsSigned sign (digits_value 10 digits) year

-- `_D`: two digits, or a space and one digit (RFC 9110 5.6.7, `date3`)
abbrev pub IsDayText : List ℕ → ℕ → Type 0
IsDayText text day =
    (text ≡ two_digits day) ⊎ ((day < 10) × (text ≡ codes " " ++ ((48 + day) ∷ [])))

-- a weekday by these names and a mark, or nothing
abbrev pub IsLead : (ℕ → List ℕ) → List ℕ → List ℕ → Type 0
IsLead name mark lead = (lead ≡ []) ⊎ ((n : ℕ) × (n < 7) × (lead ≡ name n ++ mark))

-- `DD Mon Y hh:mm:ss GMT`, where the mark stands on both sides of the month
abbrev pub day_first : List ℕ → ℕ → ℕ → List ℕ → List ℕ → List ℕ
day_first mark day month year clock =
    two_digits day
    ++ (mark ++ (month_text month ++ (mark ++ (year ++ (codes " " ++ (clock ++ codes " GMT"))))))

-- `Mon _D hh:mm:ss Y`
abbrev pub month_first : ℕ → List ℕ → List ℕ → List ℕ → List ℕ
month_first month day clock year =
    month_text month ++ (codes " " ++ (day ++ (codes " " ++ (clock ++ (codes " " ++ year)))))

-- form 1, as `Sun, 06 Nov 1994 08:49:37 GMT` (RFC 9110 5.6.7, `IMF-fixdate`)
abbrev pub IsFormOne : List ℕ → ℤ → ℕ → ℕ → List ℕ → Type 0
IsFormOne text year month day clock =
    (lead : List ℕ) × (shown : List ℕ) × IsLead weekday_text (codes ", ") lead
    × IsYearText shown year × (text ≡ lead ++ day_first (codes " ") day month shown clock)

-- form 2, as `Sunday, 06-Nov-94 08:49:37 GMT` (RFC 9110 5.6.7, `rfc850-date`)
abbrev pub IsFormTwo : List ℕ → ℤ → ℕ → ℕ → List ℕ → Type 0
IsFormTwo text year month day clock =
    (lead : List ℕ) × (short : ℕ) × IsLead long_weekday_text (codes ", ") lead
    × (short < 100) × (year ≡ pos short)
    × (text ≡ lead ++ day_first (codes "-") day month (two_digits short) clock)

-- form 3, as `Sun Nov  6 08:49:37 1994` (RFC 9110 5.6.7, `asctime-date`)
abbrev pub IsFormThree : List ℕ → ℤ → ℕ → ℕ → List ℕ → Type 0
IsFormThree text year month day clock = (lead : List ℕ) × (shown : List ℕ) × (padded : List ℕ)
    × IsLead weekday_text (codes " ") lead × IsYearText shown year × IsDayText padded day
    × (text ≡ lead ++ month_first month padded clock shown)

-- form 4, as `Sun, 06-Nov-1994 08:49:37 GMT`
abbrev pub IsFormFour : List ℕ → ℤ → ℕ → ℕ → List ℕ → Type 0
IsFormFour text year month day clock =
    (lead : List ℕ) × (shown : List ℕ) × IsLead weekday_text (codes ", ") lead
    × IsYearText shown year × (text ≡ lead ++ day_first (codes "-") day month shown clock)

-- the text has one of the forms, and shows this year, month, day and time of day
abbrev pub IsWritten : List ℕ → ℤ → ℕ → ℕ → List ℕ → Type 0
IsWritten text year month day clock =
    IsFormOne text year month day clock
    ⊎ (IsFormTwo text year month day clock
    ⊎ (IsFormThree text year month day clock ⊎ IsFormFour text year month day clock))

-- The text stands for the date-time: it shows its month, day, hour, minute and second, and a year that means
-- its year. That the calendar and the clock have these is part of what a `DateTime` is.
abbrev pub IsDateText : List ℕ → DateTime → Type 0
IsDateText text d = (year : ℤ)
    × IsWritten text year d.date.month d.date.day
    (clock_text d.time.hour d.time.minute d.time.second)
    × (d.date.year ≡ full_year year) × (d.time.subsec_nanosecond ≡ 0)

-- the answer is the date-time that the text stands for, or `None` where it stands for none
abbrev pub ReadsAsDate : List ℕ → Option DateTime → Type 0
ReadsAsDate text answer = (d : DateTime) → (answer ≡ Some d) ↔ IsDateText text d

-- the second is the first in the year that the rule makes of its year, without the fraction of a second
abbrev pub IsReadBack : DateTime → DateTime → Type 0
IsReadBack d back = (back.date.year ≡ full_year d.date.year) × (back.date.month ≡ d.date.month)
    × (back.date.day ≡ d.date.day) × (back.time.hour ≡ d.time.hour)
    × (back.time.minute ≡ d.time.minute)
    × (back.time.second ≡ d.time.second) × (back.time.subsec_nanosecond ≡ 0)
