-- Mirrors private code: where a token ends, and the bounds of what was found.
use Rattle.std.specs.Prelude.{ℕ, ◌<◌, List, [], ◌∷◌, Option, Some, None, IfSome, if◌then◌else◌}
use Rattle.jiff.specs.Words.{IsYear}
use Rattle.cookie_date.specs.CookieDate.{is_delimiter, date_tokens}
use Rattle.cookie_date.specs.declared.fields.Fields.{Fields}
use Rattle.cookie_date.specs.declared.found.Found.{Found}

-- what stands before the first delimiter, and after it, if there is one
abbrev pub cut_token : List ℕ → List ℕ × Option (List ℕ)
cut_token [] = ([], None)
cut_token (b ∷ text) =
    if is_delimiter b then ([], Some text) else (b ∷ (cut_token text).0, (cut_token text).1)

-- the tokens of the text that is left, if any
abbrev pub tokens_left : Option (List ℕ) → List (List ℕ)
tokens_left None = []
tokens_left (Some text) = date_tokens text

-- a year of at most four digits, and other numbers of at most two
pub record AreSmall (found : Found) : Type 0 where
  pub time : IfSome found.time (λ t. (t.0 < 100) × (t.1 < 100) × (t.2 < 100))
  pub day : IfSome found.day (λ day. day < 100)
  pub month : IfSome found.month (λ month. month < 100)
  pub year : IfSome found.year (λ year. year < 10000)

-- `AreSmall` for fields, whose year is one of the calendar
pub record IsShort (fields : Fields) : Type 0 where
  pub year : IsYear fields.year
  pub month : fields.month < 100
  pub day : fields.day < 100
  pub hour : fields.hour < 100
  pub minute : fields.minute < 100
  pub second : fields.second < 100
