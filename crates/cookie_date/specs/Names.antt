-- The names of weekdays and months in a date's text (RFC 9110 5.6.7).
use Rattle.std.specs.Prelude.{ℕ, ◌-◌, List, [], ◌∷◌, codes, slice_index_or}

-- the short name of a weekday, from 0 for Monday (RFC 9110 5.6.7, `day-name`)
abbrev pub weekday_text : ℕ → List ℕ
weekday_text n = slice_index_or
    (codes "Mon" ∷ codes "Tue" ∷ codes "Wed" ∷ codes "Thu" ∷ codes "Fri" ∷ codes "Sat" ∷ codes "Sun"
    ∷ []) n []

-- the long name of a weekday, from 0 for Monday (RFC 9110 5.6.7, `day-name-l`)
abbrev pub long_weekday_text : ℕ → List ℕ
long_weekday_text n = slice_index_or
    (codes "Monday" ∷ codes "Tuesday" ∷ codes "Wednesday" ∷ codes "Thursday" ∷ codes "Friday"
    ∷ codes "Saturday" ∷ codes "Sunday" ∷ []) n []

-- the short name of a month, from 1 for January (RFC 9110 5.6.7, `month`)
abbrev pub month_text : ℕ → List ℕ
month_text n = slice_index_or
    (codes "Jan" ∷ codes "Feb" ∷ codes "Mar" ∷ codes "Apr" ∷ codes "May" ∷ codes "Jun" ∷ codes "Jul"
    ∷ codes "Aug" ∷ codes "Sep" ∷ codes "Oct" ∷ codes "Nov" ∷ codes "Dec" ∷ []) (n - 1) []
