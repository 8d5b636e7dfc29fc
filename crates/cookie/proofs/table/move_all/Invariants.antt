use Rattle.cookie.proofs.RowLemmas.{IsMoving}
use Rattle.cookie.proofs.table.move_all.Given as goal

abbrev pub invariant-loop-key : goal.invariant-loop-key
invariant-loop-key g l = IsMoving l.fn.pairs.items l.initial.table l.table l.key-iterator
