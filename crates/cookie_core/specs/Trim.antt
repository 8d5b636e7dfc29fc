-- A text without the white space at its ends: RFC 6265 5.2 removes leading and trailing white space, and here that is
-- Unicode White_Space. `IsWhite` is an inner word.
use Rattle.std.specs.Prelude.{◌≡◌, ℕ, true, false, List, [], ◌∷◌, ◌++◌, All, IsUtf8}
use Rattle.std.specs.Char.{is_whitespace}
use Rattle.std.specs.Str.{chars}

-- the characters of the text are all White_Space
abbrev pub IsWhite : List ℕ → Type 0
IsWhite text = All (λ char. is_whitespace char ≡ true) (chars text)

-- the part is what stands in the text between white space, and neither begins nor ends with a White_Space character
pub record IsTrimmed (text part : List ℕ) : Type 0 where
  pub before : List ℕ
  pub after : List ℕ
  pub whole : text ≡ before ++ (part ++ after)
  pub texts : IsUtf8 before × IsUtf8 part × IsUtf8 after
  pub white : IsWhite before × IsWhite after
  pub begins : (char : ℕ) (rest : List ℕ) → chars part ≡ char ∷ rest → is_whitespace char ≡ false
  pub ends : (front : List ℕ) (char : ℕ) → chars part ≡ front ++ char ∷ []
      → is_whitespace char ≡ false

-- a part of the text that neither begins nor ends with a White_Space character, or is empty
pub record IsBarePart (text part : List ℕ) : Type 0 where
  pub before : List ℕ
  pub after : List ℕ
  pub whole : text ≡ before ++ (part ++ after)
  pub texts : IsUtf8 before × IsUtf8 part × IsUtf8 after
  pub begins : (char : ℕ) (rest : List ℕ) → chars part ≡ char ∷ rest → is_whitespace char ≡ false
  pub ends : (front : List ℕ) (char : ℕ) → chars part ≡ front ++ char ∷ []
      → is_whitespace char ≡ false
