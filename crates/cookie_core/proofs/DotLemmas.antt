-- A text that does not begin with a dot.
use Rattle.std.proofs.Common.{◌≡◌, ℕ, List, [], ◌∷◌, refl, arith}
use Rattle.std.proofs.lemmas.Grind.{common_steps}
use Rattle.cookie_core.specs.Record.{without_leading_dot}
use mathlib.Core.Logic.{◌≢◌}

pub without_leading_dot-same : (s : List ℕ) → ((rest : List ℕ) → s ≢ 46 ∷ rest) → s ≡ without_leading_dot s
without_leading_dot-same [] h = refl
without_leading_dot-same (c ∷ cs) h = grind (arith, common_steps, h cs)
