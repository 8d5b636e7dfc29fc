use Rattle.cookie_crypt.specs.Code.{row}
use Rattle.cookie_crypt.proofs.Made.{AreMadeBelow}
use Rattle.cookie_crypt.proofs.multiples.rows.Given as goal

abbrev pub invariant-loop-j : goal.invariant-loop-j
invariant-loop-j l = AreMadeBelow (row l.h) 16 l.j l.rows
