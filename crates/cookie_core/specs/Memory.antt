-- Calls that can be out of memory.
use Rattle.std.specs.Prelude.{◌≡◌, Result, Ok, Err}

-- The call gave an answer that meets the fact, or found no memory and says so by this refusal.
abbrev pub Gives : {T E : Type 0} → E → Result T E → (T → Type 0) → Type 0
Gives refusal (Ok answer) fact = fact answer
Gives refusal (Err error) fact = error ≡ refusal
