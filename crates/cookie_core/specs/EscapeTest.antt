-- Whether a text holds an escape (RFC 3986 2.1).
use Rattle.std.specs.Prelude.{ℕ, Bool, false, ◌||◌, List, [], ◌∷◌}
use Rattle.percent_encoding.specs.Percent.{is_escape}

-- the text begins with `%` and two hexadecimal digits
abbrev pub starts_with_escape : List ℕ → Bool
starts_with_escape [] = false
starts_with_escape (byte ∷ []) = false
starts_with_escape (byte ∷ next ∷ []) = false
starts_with_escape (byte ∷ high ∷ low ∷ rest) = is_escape byte high low

-- an escape stands somewhere in the text
abbrev pub has_escape : List ℕ → Bool
has_escape [] = false
has_escape (byte ∷ rest) = starts_with_escape (byte ∷ rest) || has_escape rest
