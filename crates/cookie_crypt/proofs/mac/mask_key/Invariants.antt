use Rattle.std.proofs.Common.{slice_index}
use Rattle.cookie_crypt.specs.Hmac.{masked}
use Rattle.cookie_crypt.proofs.Made.{IsMadeBelow}
use Rattle.cookie_crypt.proofs.mac.mask_key.Given as goal

abbrev pub invariant-loop-i : goal.invariant-loop-i
invariant-loop-i l = IsMadeBelow (λ k. slice_index (masked l.key l.mask) k) 64 l.i l.bytes
