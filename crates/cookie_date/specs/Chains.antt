-- Chains of steps each of which may give nothing, for `do`.
use Rattle.std.specs.Prelude.{Option, option_and_then}

-- the next step at what the first gave, if it gave something
infixl 10 ◌>>=◌
abbrev pub ◌>>=◌ : {A B : Type 0} → Option A → (A → Option B) → Option B
first >>= next = option_and_then next first
