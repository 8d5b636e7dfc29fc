-- How a header is split into cookies (RFC 6265 4.2.1, 5.4).
use Rattle.std.specs.Prelude.{◌≡◌, ℕ, ◌==◌, not, filter, map, length, List, [], ◌∷◌, ◌++◌, codes}
use Rattle.std.specs.Str.{trim}
use Rattle.cookie_core.specs.Pieces.{IsPieces, pieces}

-- the pieces, trimmed, without the empty ones
abbrev pub kept_texts : List (List ℕ) → List (List ℕ)
kept_texts texts = filter (λ text. not (length text == 0)) (map trim texts)

-- the header's pieces that are not blank, trimmed, in order
abbrev pub IsHeaderTexts : List ℕ → List (List ℕ) → Type 0
IsHeaderTexts header texts =
    (first : List ℕ) × (later : List (List ℕ)) × IsPieces header first later
    × (texts ≡ kept_texts (first ∷ later))

-- the one list of those texts
abbrev pub header_texts : List ℕ → List (List ℕ)
header_texts header = kept_texts (pieces header)

-- texts, each after `; ` (RFC 6265 4.2.1)
abbrev pub more_joined : List (List ℕ) → List ℕ
more_joined [] = []
more_joined (text ∷ texts) = codes "; " ++ (text ++ more_joined texts)

-- texts, joined by `; ` (RFC 6265 4.2.1)
abbrev pub joined_texts : List (List ℕ) → List ℕ
joined_texts [] = []
joined_texts (text ∷ texts) = text ++ more_joined texts
