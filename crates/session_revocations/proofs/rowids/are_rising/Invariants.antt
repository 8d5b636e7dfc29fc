use Rattle.std.proofs.Common.{None, drop}
use Rattle.session_revocations.specs.Rowids.{AreRising}
use Rattle.session_revocations.proofs.rowids.are_rising.Given as goal

abbrev pub invariant-loop-row : goal.invariant-loop-row
invariant-loop-row l = AreRising l.last (drop l.row-index l.rows) → AreRising None l.rows
