-- Small steps on bytes.
use Rattle.std.specs.Prelude.{ℕ, ◌==◌, List, [], ◌∷◌, Option, Some, None, if◌then◌else◌}

-- the bytes before the first mark, or all, and the bytes after that mark, if there is one
unfoldable pub cut : ℕ → List ℕ → List ℕ × Option (List ℕ)
cut mark [] = ([], None)
cut mark (byte ∷ bytes) =
    if byte == mark then ([], Some bytes) else (byte ∷ (cut mark bytes).0, (cut mark bytes).1)
