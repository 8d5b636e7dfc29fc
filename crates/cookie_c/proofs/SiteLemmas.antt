-- What a call in a second comes to.
use Rattle.std.proofs.Common.{ℕ, ◌≤◌, arith}
use Rattle.jiff.specs.Types.{DateTime}
use Rattle.cookie_c.specs.Sites.{AtSecond, IsAtSecond, last_second}
use Rattle.cookie_c.specs.declared.status.Status.{Status}

-- a second of a date
pub at_second : (second : ℕ) (Holds : DateTime → Type 0) (Refuses : Status → Type 0) (time : DateTime)
    → (second ≤ last_second) × IsAtSecond second time → Holds time → AtSecond second Holds Refuses
at_second second Holds Refuses time is holds = record {
  no_date = λ late. absurd (omega (arith, late, is.0));
  dated = λ _. (time, is.1, holds);
}
