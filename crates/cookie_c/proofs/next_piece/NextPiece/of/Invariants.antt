use Rattle.std.proofs.Common.{◌≡◌, ◌+◌, ◌-◌, length}
use Rattle.cookie_c.specs.Pairs.{next_piece}
use Rattle.cookie_c.proofs.next_piece.NextPiece.of.Given as goal

abbrev pub invariant-loop-start : goal.invariant-loop-start
invariant-loop-start l = next_piece l.fn.header l.fn.from ≡ next_piece l.fn.header l.start

abbrev pub decreases-loop-start : goal.decreases-loop-start
decreases-loop-start l = length l.fn.header + 1 - l.start
