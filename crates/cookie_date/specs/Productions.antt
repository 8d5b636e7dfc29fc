-- The productions of a date's tokens, as relations (RFC 6265 5.1.1).
use Rattle.std.specs.Prelude.{◌≡◌, ℕ, ◌≤◌, ◌↔◌, false, List, ◌∷◌, ◌++◌, length, slice_index, Some}
use Rattle.std.specs.Char.{is_ascii_digit}
use Rattle.std.specs.Str.Parse.{AllDigits, digits_value}
use Rattle.cookie_date.specs.CookieDate.{time_in, day_in, year_in}

-- the text is this many digits, which write the number, and a rest that begins with no digit
-- (`least*mostDIGIT [ non-digit *OCTET ]`)
abbrev pub IsRun : ℕ → ℕ → List ℕ → ℕ → List ℕ → Type 0
IsRun least most text n rest = (digits : List ℕ) × (text ≡ digits ++ rest) × AllDigits 10 digits
    × (least ≤ length digits) × (length digits ≤ most) × (n ≡ digits_value 10 digits)
    × (is_ascii_digit (slice_index rest 0) ≡ false)

-- `time`: `1*2DIGIT ":" 1*2DIGIT ":" 1*2DIGIT [ non-digit *OCTET ]`
abbrev pub IsTime : List ℕ → ℕ × ℕ × ℕ → Type 0
IsTime token t = (a : List ℕ) × (b : List ℕ) × (c : List ℕ)
    × IsRun 1 2 token t.0 (58 ∷ a) × IsRun 1 2 a t.1 (58 ∷ b) × IsRun 1 2 b t.2 c

-- `day-of-month`: `1*2DIGIT [ non-digit *OCTET ]`
abbrev pub IsDay : List ℕ → ℕ → Type 0
IsDay token day = (rest : List ℕ) × IsRun 1 2 token day rest

-- `year`: `2*4DIGIT [ non-digit *OCTET ]`
abbrev pub IsYearToken : List ℕ → ℕ → Type 0
IsYearToken token year = (rest : List ℕ) × IsRun 2 4 token year rest

-- what is read of a token is what its production says, and nothing else
pub record IsGrammar : Type 0 where
  pub time : (token : List ℕ) (t : ℕ × ℕ × ℕ) → (time_in token ≡ Some t) ↔ IsTime token t
  pub day : (token : List ℕ) (n : ℕ) → (day_in token ≡ Some n) ↔ IsDay token n
  pub year : (token : List ℕ) (n : ℕ) → (year_in token ≡ Some n) ↔ IsYearToken token n
