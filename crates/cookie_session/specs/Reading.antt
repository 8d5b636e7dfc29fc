-- Mirrors private code: what is read of a text before it is written again (src/session_text.rt).
use Rattle.std.specs.Prelude.{ℕ, List, [], ◌∷◌, ◌++◌, codes}
use Rattle.cookie_session.specs.Form.{compact_pair}

-- each further pair, with `&` before it
abbrev pub later_pairs : List (List ℕ × List ℕ) → List ℕ
later_pairs [] = []
later_pairs (pair ∷ pairs) = codes "&" ++ compact_pair pair ++ later_pairs pairs

-- the form of these pairs, as it is read from the front
abbrev pub pairs_text : List (List ℕ × List ℕ) → List ℕ
pairs_text [] = []
pairs_text (pair ∷ pairs) = compact_pair pair ++ later_pairs pairs
