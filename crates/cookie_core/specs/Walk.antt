-- Mirrors private code: how far a reader has come.
use Rattle.std.specs.Prelude.{◌≡◌, ℕ, List, [], ◌∷◌, ◌++◌, Option, Some, None, All}
use Rattle.cookie_core.specs.Pieces.{Lacks}
use Rattle.cookie_core.specs.Attributes.{SetsAttributes}
use Rattle.cookie_core.specs.Record.{Record}
use Rattle.cookie_core.specs.Separators.{semicolon}

-- what stands after a piece: nothing, or a `;` and the rest
abbrev pub behind : Option (List ℕ) → List ℕ
behind None = []
behind (Some rest) = semicolon ∷ rest

-- the pieces, and then the rest
abbrev pub before_rest : List (List ℕ) → Option (List ℕ) → Option (List ℕ)
before_rest [] rest = rest
before_rest (piece ∷ pieces) rest = Some (piece ++ behind (before_rest pieces rest))

-- the pieces that lie in front of the rest, and what they set
pub record HasRead (all : Option (List ℕ)) (cookie : Record) (rest : Option (List ℕ)) : Type 0 where
  pub pieces : List (List ℕ)
  pub whole : all ≡ before_rest pieces rest
  pub apart : All (Lacks semicolon) pieces
  pub sets : SetsAttributes pieces cookie
