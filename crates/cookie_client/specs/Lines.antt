-- The lines of the program's input.
use Rattle.std.specs.Prelude.{ℕ, ◌==◌, List, [], ◌∷◌, map, if◌then◌else◌, Option, Some, None}
use Rattle.std.specs.List.{slice_split}

-- a line without one carriage return at its end
abbrev pub without_return : List ℕ → List ℕ
without_return [] = []
without_return (c ∷ []) = if c == 13 then [] else c ∷ []
without_return (c ∷ d ∷ cs) = c ∷ without_return (d ∷ cs)

-- the texts between a text's newlines, without one carriage return at the end; after a last newline one more, empty
abbrev pub lines_of : List ℕ → List (List ℕ)
lines_of text = map without_return (slice_split (λ b. b == 10) text)

-- the lines of the text that is left, if any
abbrev pub lines_left : Option (List ℕ) → List (List ℕ)
lines_left None = []
lines_left (Some text) = lines_of text
