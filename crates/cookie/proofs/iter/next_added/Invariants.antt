use Rattle.std.proofs.Common.{◌≡◌, map, length}
use Rattle.cookie.specs.Shown.{additions}
use Rattle.cookie.specs.Table.{delta_mark}
use Rattle.cookie.proofs.iter.next_added.Given as goal

abbrev pub invariant-loop-entry : goal.invariant-loop-entry
invariant-loop-entry l = additions (map delta_mark l.initial.changes) ≡ additions (map delta_mark l.changes)

abbrev pub decreases-loop-entry : goal.decreases-loop-entry
decreases-loop-entry l = length l.changes
