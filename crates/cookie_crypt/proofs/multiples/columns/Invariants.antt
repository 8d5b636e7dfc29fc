use Rattle.cookie_crypt.specs.Code.{column}
use Rattle.cookie_crypt.proofs.Made.{AreMadeBelow}
use Rattle.cookie_crypt.proofs.multiples.columns.Given as goal

abbrev pub invariant-loop-b : goal.invariant-loop-b
invariant-loop-b l = AreMadeBelow (column l.fn.h) 16 l.b l.columns
