-- The pieces of a text between its semicolons (RFC 6265 5.2).
use Rattle.std.specs.Prelude.{◌≡◌, ◌≢◌, ℕ, ◌<◌, ◌==◌, List, [], ◌∷◌, ◌++◌, All, length, slice_index}
use Rattle.std.specs.List.{position_or_len, slice_split}
use Rattle.cookie_core.specs.Separators.{semicolon}

-- no byte of the text is the mark
abbrev pub Lacks : ℕ → List ℕ → Type 0
Lacks mark text = (place : ℕ) → place < length text → slice_index text place ≢ mark

-- the offset of the first such mark in the text, or the text's length
abbrev pub offset_of : ℕ → List ℕ → ℕ
offset_of mark text = position_or_len (λ byte. byte == mark) text

-- the piece and the later ones, joined by the mark
abbrev pub joined_pieces : ℕ → List ℕ → List (List ℕ) → List ℕ
joined_pieces mark piece [] = piece
joined_pieces mark piece (next ∷ later) = piece ++ mark ∷ joined_pieces mark next later

-- the piece and the others are the texts without `;` that, joined by `;`, give the text
pub record IsPieces (text piece : List ℕ) (others : List (List ℕ)) : Type 0 where
  pub joined : text ≡ joined_pieces semicolon piece others
  pub first : Lacks semicolon piece
  pub later : All (Lacks semicolon) others

-- the one list of the text's pieces
abbrev pub pieces : List ℕ → List (List ℕ)
pieces text = slice_split (λ byte. byte == semicolon) text
