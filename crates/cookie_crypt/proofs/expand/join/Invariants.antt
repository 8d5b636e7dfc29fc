use Rattle.std.proofs.Common.{◌++◌, slice_index}
use Rattle.cookie_crypt.proofs.Made.{IsMadeBelow}
use Rattle.cookie_crypt.proofs.expand.join.Given as goal

abbrev pub invariant-loop-i : goal.invariant-loop-i
invariant-loop-i l = IsMadeBelow (λ k. slice_index (l.first ++ l.second) k) 64 l.i l.bytes
