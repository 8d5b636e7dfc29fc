-- Mirrors private code: what the readers of a date's pieces and forms compute.
use Rattle.std.specs.Prelude.{ℕ, zero, suc, ◌+◌, ◌-◌, ◌*◌, ◌==◌, List, [], ◌∷◌, length, take, drop, Option, Some, None, option_map, bytes_eq, codes, if◌then◌else◌, ℤ, pos, neg_ℤ, Bool, true, false, slice_index, slice_index_or}
use Rattle.std.specs.Char.{is_ascii_digit}
use Rattle.std.specs.Borrow.{Bor}
use Rattle.cookie_date.specs.declared.fields.Fields.{Fields}
use Rattle.cookie_date.specs.Names.{weekday_text, month_text}
use Rattle.cookie_date.specs.Chains.{◌>>=◌}

-- what stands at the front of a text, and the text after it
abbrev pub Front : Type 0 → Type 0
Front A = Option (A × List ℕ)

-- the same, where the text after it is a slice
abbrev pub front : {A : Type 0} → Option (A × Bor (List ℕ)) → Front A
front found = option_map (λ p. (p.0, p.1.now)) found

-- the text after this tag
abbrev pub read_tag : List ℕ → List ℕ → Option (List ℕ)
read_tag tag text =
    if bytes_eq (take (length tag) text) tag then Some (drop (length tag) text) else None

-- one digit
unfoldable pub read_digit : List ℕ → Front ℕ
read_digit [] = None
read_digit (c ∷ rest) = if is_ascii_digit c then Some (c - 48, rest) else None

-- two digits
unfoldable pub read_two_digits : List ℕ → Front ℕ
read_two_digits text = do
  tens ← read_digit text
  units ← read_digit tens.1
  Some (tens.0 * 10 + units.0, units.1)

-- two digits, or a blank and one digit
unfoldable pub read_padded_day : List ℕ → Front ℕ
read_padded_day text =
    if slice_index text 0 == 32 then (read_tag (codes " ") text >>= read_digit)
    else read_two_digits text

-- hour, minute and second, with colons between them
unfoldable pub read_clock : List ℕ → Front (ℕ × ℕ × ℕ)
read_clock text = do
  hours ← read_two_digits text
  minutes ← read_tag (codes ":") hours.1 >>= read_two_digits
  seconds ← read_tag (codes ":") minutes.1 >>= read_two_digits
  Some ((hours.0, minutes.0, seconds.0), seconds.1)

-- at most this many more digits of a number
abbrev pub read_digits : ℕ → ℕ → List ℕ → ℕ × List ℕ
read_digits zero number text = (number, text)
read_digits (suc k) number [] = (number, [])
read_digits (suc k) number (c ∷ text) =
    if is_ascii_digit c then read_digits k (number * 10 + (c - 48)) text else (number, c ∷ text)

-- the numbers below this leave room for this many more digits, up to four digits
abbrev pub room : ℕ → ℕ
room most =
    if most == 0 then 10000
    else if most == 1 then 1000
    else if most == 2 then 100
    else if most == 3 then 10
    else if most == 4 then 1 else 0

-- one to four digits, as many as there are
unfoldable pub read_number : List ℕ → Front ℕ
read_number text =
    let r = read_digits 4 0 text in if length r.1 == length text then None else Some r

-- `-`
abbrev pub minus : ℕ
minus = 45

-- `+`
abbrev pub plus : ℕ
plus = 43

-- whether `-` stands at the front, and the text after the sign
abbrev pub read_sign : List ℕ → Bool × List ℕ
read_sign [] = (false, [])
read_sign (c ∷ text) =
    if c == minus then (true, text) else if c == plus then (false, text) else (false, c ∷ text)

-- a sign, if there is one, and one to four digits
unfoldable pub read_year : List ℕ → Front ℤ
read_year text = do
  digits ← read_number (read_sign text).1
  Some (if (read_sign text).0 then neg_ℤ (pos digits.0) else pos digits.0, digits.1)

-- the number n and the text after its name, or else what the names after it give
abbrev pub or_later : Option (List ℕ) → ℕ → Front ℕ → Front ℕ
or_later (Some rest) n later = Some (n, rest)
or_later None n later = later

-- the first of this many numbers from n on whose name stands at the front
unfoldable pub read_name : (ℕ → List ℕ) → ℕ → ℕ → List ℕ → Front ℕ
read_name name zero n text = None
read_name name (suc more) n text =
    or_later (read_tag (name n) text) n (read_name name more (n + 1) text)

-- what the long name of a weekday has after the short one
abbrev pub weekday_rest : ℕ → List ℕ
weekday_rest n = slice_index_or
    (codes "day" ∷ codes "sday" ∷ codes "nesday" ∷ codes "rsday" ∷ codes "day" ∷ codes "urday"
    ∷ codes "day" ∷ []) n []

-- a day and a month, with this mark after each
unfoldable pub read_day_month : List ℕ → List ℕ → Front (ℕ × ℕ)
read_day_month mark text = do
  day ← read_two_digits text
  month ← read_tag mark day.1 >>= read_name month_text 12 1
  rest ← read_tag mark month.1
  Some ((day.0, month.0), rest)

-- a blank, the time of day and ` GMT`, with nothing after it
unfoldable pub read_gmt : List ℕ → Option (ℕ × ℕ × ℕ)
read_gmt text = do
  clock ← read_tag (codes " ") text >>= read_clock
  if bytes_eq clock.1 (codes " GMT") then Some clock.0 else None

-- what was read, field by field
abbrev pub fields_of : ℤ → ℕ → ℕ → ℕ × ℕ × ℕ → Fields
fields_of year month day clock = record {
  year = year;
  month = month;
  day = day;
  hour = clock.0;
  minute = clock.1;
  second = clock.2;
}

-- `06 Nov 1994 08:49:37 GMT`, with this mark on both sides of the month
unfoldable pub read_day_first : List ℕ → List ℕ → Option Fields
read_day_first mark text = do
  date ← read_day_month mark text
  year ← read_year date.1
  clock ← read_gmt year.1
  Some (fields_of year.0 date.0.1 date.0.0 clock)

-- `06-Nov-94 08:49:37 GMT`
unfoldable pub read_short_year : List ℕ → Option Fields
read_short_year text = do
  date ← read_day_month (codes "-") text
  year ← read_two_digits date.1
  clock ← read_gmt year.1
  Some (fields_of (pos year.0) date.0.1 date.0.0 clock)

-- `Nov  6 08:49:37 1994`
unfoldable pub read_month_first : List ℕ → Option Fields
read_month_first text = do
  month ← read_name month_text 12 1 text
  day ← read_tag (codes " ") month.1 >>= read_padded_day
  clock ← read_tag (codes " ") day.1 >>= read_clock
  year ← read_tag (codes " ") clock.1 >>= read_year
  if length year.1 == 0 then Some (fields_of year.0 month.0 day.0 clock.0) else None

-- with blanks or hyphens round the month, as the byte after the day tells
unfoldable pub read_either_mark : List ℕ → Option Fields
read_either_mark text =
    if slice_index text 2 == minus then read_day_first (codes "-") text
    else read_day_first (codes " ") text

-- a date without a weekday
unfoldable pub read_unnamed : List ℕ → Option Fields
read_unnamed text =
    if is_ascii_digit (slice_index text 0) then read_either_mark text else read_month_first text

-- what follows the short name of a weekday
unfoldable pub read_named : ℕ → List ℕ → Option Fields
read_named n text = if slice_index text 0 == 44
    then (read_tag (codes ", ") text >>= read_either_mark)
    else (if slice_index text 0 == 32
    then (read_tag (codes " ") text >>= read_month_first)
    else (read_tag (weekday_rest n) text
    >>= λ rest. read_tag (codes ", ") rest >>= read_short_year))

-- a date after a weekday, if one was read, and else the other date
abbrev pub named_or : Front ℕ → Option Fields → Option Fields
named_or None other = other
named_or (Some weekday) other = read_named weekday.0 weekday.1

-- a date in any of the forms
unfoldable pub read_fields : List ℕ → Option Fields
read_fields text = named_or (read_name weekday_text 7 0 text) (read_unnamed text)
