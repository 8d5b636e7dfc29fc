-- Dates as browsers read them (RFC 6265 5.1.1).
use Rattle.std.specs.Prelude.{ℕ, zero, suc, ◌+◌, ◌==◌, ◌||◌, Bool, nat_le, int_lt, List, take, length, fold, Option, Some, None, option_map, bytes_eq, codes, if◌then◌else◌, pos, slice_index}
use Rattle.std.specs.Char.{is_ascii_digit}
use Rattle.std.specs.Int.{is_in_range}
use Rattle.std.specs.List.{slice_split}
use Rattle.std.specs.Str.{str_to_ascii_lowercase}
use Rattle.jiff.specs.Types.{DateTime}
use Rattle.cookie_date.specs.declared.fields.Fields.{Fields}
use Rattle.cookie_date.specs.declared.found.Found.{Found}
use Rattle.cookie_date.specs.Calendar.{date_at, time_at}
use Rattle.cookie_date.specs.Chains.{◌>>=◌}
use Rattle.cookie_date.specs.Forms.{full_year}
use Rattle.cookie_date.specs.Names.{month_text}
use Rattle.cookie_date.specs.Reader.{Front, read_tag, read_digits, fields_of}

-- ---- tokens (step 1)

-- a tab, a space, or a graphic ASCII byte that is no letter, no digit and no colon
abbrev pub is_delimiter : ℕ → Bool
is_delimiter b =
    b == 9 || (is_in_range 32 47 b || (is_in_range 59 64 b
    || (is_in_range 91 96 b || is_in_range 123 126 b)))

-- what stands between delimiters; where two of them meet it is empty, and no production reads that
abbrev pub date_tokens : List ℕ → List (List ℕ)
date_tokens text = slice_split is_delimiter text

-- ---- productions

-- the number of this many digits at the front of a text, which no further digit follows, and the text after it
unfoldable pub read_run : ℕ → ℕ → List ℕ → Front ℕ
read_run least most text =
    let r = read_digits most 0 text in
    if is_ascii_digit (slice_index r.1 0) then None
    else if nat_le (length r.1 + least) (length text) then Some r else None

-- `time`: three fields of one or two digits, between colons
unfoldable pub time_in : List ℕ → Option (ℕ × ℕ × ℕ)
time_in token = do
  hour ← read_run 1 2 token
  minute ← read_tag (codes ":") hour.1 >>= read_run 1 2
  second ← read_tag (codes ":") minute.1 >>= read_run 1 2
  Some (hour.0, minute.0, second.0)

-- `day-of-month`: one or two digits
unfoldable pub day_in : List ℕ → Option ℕ
day_in token = option_map (λ r. r.0) (read_run 1 2 token)

-- `year`: two to four digits
unfoldable pub year_in : List ℕ → Option ℕ
year_in token = option_map (λ r. r.0) (read_run 2 4 token)

-- the token begins with the name of the month, in any ASCII case
abbrev pub is_month : ℕ → List ℕ → Bool
is_month n token =
    bytes_eq (str_to_ascii_lowercase (take 3 token)) (str_to_ascii_lowercase (month_text n))

-- the first of this many months from n on whose name stands at the front
unfoldable pub month_from : ℕ → ℕ → List ℕ → Option ℕ
month_from zero n token = None
month_from (suc more) n token = if is_month n token then Some n else month_from more (n + 1) token

-- `month`: the first three letters of its name
abbrev pub month_in : List ℕ → Option ℕ
month_in token = month_from 12 1 token

-- ---- the tokens in order (step 2)

-- nothing is found
abbrev pub nothing_found : Found
nothing_found = record { time = None; day = None; month = None; year = None }

-- what a production reads, where its flag is not set
abbrev pub unless_found : {X : Type 0} → Option X → Option X → Option X
unless_found (Some x) read = None
unless_found None read = read

-- what is found with the number that a production read, or else by the next production
abbrev pub or_next : {X : Type 0} → Option X → (X → Found) → Found → Found
or_next (Some x) found next = found x
or_next None found next = next

-- what is found once a token was looked at: a time, else a day, else a month, else a year
unfoldable pub with_token : Found → List ℕ → Found
with_token found token =
    or_next (unless_found found.time (time_in token)) (λ x. record found { time = Some x })
    (or_next (unless_found found.day (day_in token)) (λ x. record found { day = Some x })
    (or_next (unless_found found.month (month_in token)) (λ x. record found { month = Some x })
    (or_next (unless_found found.year (year_in token)) (λ x. record found { year = Some x })
    found)))

-- what all tokens give
abbrev pub found_in : List ℕ → Found
found_in text = fold with_token nothing_found (date_tokens text)

-- ---- the date (steps 3 to 7)

-- the fields, if all four are found (step 5)
abbrev pub found_fields : Found → Option Fields
found_fields found = do
  time ← found.time
  day ← found.day
  month ← found.month
  year ← found.year
  Some (fields_of (pos year) month day time)

-- the date-time of the fields, in a year from 0 to 99 that is completed (steps 3 and 4), if the calendar and a clock
-- have it, and it isn't before 1601 (steps 5 and 6)
abbrev pub date_of_found : Fields → Option DateTime
date_of_found fields = do
  date ← if int_lt (full_year fields.year) (pos 1601) then None
      else date_at (full_year fields.year) fields.month fields.day
  time ← time_at fields.hour fields.minute fields.second 0
  Some (record { date = date; time = time })

-- the date-time that a browser reads, or `None` where it reads none
unfoldable pub cookie_date_of : List ℕ → Option DateTime
cookie_date_of text = found_fields (found_in text) >>= date_of_found
