use Rattle.std.proofs.Common.{◌+◌, ◌*◌, slice_index}
use Rattle.cookie_crypt.proofs.Made.{IsMadeBelow}
use Rattle.cookie_crypt.proofs.block.block_at.Given as goal

abbrev pub invariant-loop-j : goal.invariant-loop-j
invariant-loop-j l = IsMadeBelow (λ j. slice_index l.bytes (16 * l.i + j)) 16 l.j l.block
