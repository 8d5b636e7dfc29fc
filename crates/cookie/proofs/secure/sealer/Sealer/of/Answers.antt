use Rattle.cookie.proofs.secure.sealer.Sealer.of.Goals as goal

pub invariant_of-result : goal.invariant_of-result
invariant_of-result c = rw c.new.ensures.value c.new.ensures.bytes
