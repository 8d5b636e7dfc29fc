-- A session for C.
use Rattle.std.specs.Prelude.{◌≡◌, ℕ, ◌⊎◌, List, Result, Ok, Err}
use Rattle.cookie_client.specs.Session.{Fault, BadMoment, BadInput, BadLine}
use Rattle.cookie_client.specs.declared.run_error.RunError.{RunError}
use Rattle.cookie_client.specs.declared.run_error.RunError.TheVariants as errors
use Rattle.cookie_c.specs.Answers.{IsGivenInMemory, IsRefused, IsTold}
use Rattle.cookie_c.specs.declared.answer.Answer.{Answer}
use Rattle.cookie_c.specs.declared.status.Status.TheVariants as status

-- what a session's fault is told as, with the number of a bad line
abbrev pub IsFault : Fault → Answer → Type 0
IsFault BadMoment answer = IsTold status.BadMoment 0 answer
IsFault BadInput answer = IsTold status.NotUtf8 0 answer
IsFault (BadLine line) answer = IsTold status.BadLine line answer

-- the session's text is given, or its fault told, or memory was wanting
abbrev pub IsSession : Result (List ℕ) Fault → Answer → List ℕ → List ℕ → Type 0
IsSession (Ok text) answer old new = IsGivenInMemory text answer old new
IsSession (Err fault) answer old new =
    (IsFault fault answer × (new ≡ old)) ⊎ IsRefused status.OutOfMemory answer old new

-- the refusal is the session's fault, or out of memory
abbrev pub IsPlayedFor : Result (List ℕ) Fault → RunError → Type 0
IsPlayedFor played errors.BadMoment = played ≡ Err BadMoment
IsPlayedFor played errors.BadInput = played ≡ Err BadInput
IsPlayedFor played (errors.BadLine line) = played ≡ Err (BadLine line)
IsPlayedFor played errors.OutOfMemory = Unit {0}
IsPlayedFor played errors.Input = Unit {0}
IsPlayedFor played errors.Output = Unit {0}
