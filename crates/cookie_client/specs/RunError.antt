-- The statuses of the program.
use Rattle.std.specs.Prelude.{ℕ}
use Rattle.cookie_client.specs.declared.run_error.RunError.{RunError}
use Rattle.cookie_client.specs.declared.run_error.RunError.TheVariants as refusal

-- the status that the program ends with
abbrev pub status_of : RunError → ℕ
status_of refusal.BadMoment = 2
status_of refusal.BadInput = 2
status_of (refusal.BadLine line) = 2
status_of refusal.OutOfMemory = 1
status_of refusal.Input = 1
status_of refusal.Output = 1
