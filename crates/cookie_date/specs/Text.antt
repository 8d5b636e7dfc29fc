-- The text of a date-time, as `Wed, 21 Oct 2015 07:28:00 GMT` (RFC 9110 5.6.7, `IMF-fixdate`).
use Rattle.std.specs.Prelude.{ℕ, ◌+◌, ◌/◌, ◌%◌, List, [], ◌∷◌, ◌++◌, codes}
use Rattle.std.specs.Fmt.{signed_decimal}
use Rattle.jiff.specs.Types.{DateTime}
use Rattle.jiff.specs.Words.{weekday_of}
use Rattle.cookie_date.specs.Names.{weekday_text, month_text}

-- the two decimal digits of a number below 100
abbrev pub two_digits : ℕ → List ℕ
two_digits n = (48 + n / 10) ∷ (48 + n % 10) ∷ []

-- hour, minute and second (RFC 9110 5.6.7, `time-of-day`)
abbrev pub clock_text : ℕ → ℕ → ℕ → List ℕ
clock_text hour minute second =
    two_digits hour ++ (codes ":" ++ (two_digits minute ++ (codes ":" ++ two_digits second)))

-- the weekday, day, month, year and time of day; the year in as many digits as it has, and no fraction of a second
abbrev pub moment_text : DateTime → List ℕ
moment_text m =
    weekday_text (weekday_of m.date) ++ (codes ", " ++ (two_digits m.date.day ++ (codes " "
    ++ (month_text m.date.month ++ (codes " " ++ (signed_decimal m.date.year ++ (codes " "
    ++ (clock_text m.time.hour m.time.minute m.time.second ++ codes " GMT"))))))))
