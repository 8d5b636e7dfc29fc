use Rattle.cookie.proofs.secure.sealer.Sealer.copy.Goals as goal

pub invariant_of-result : goal.invariant_of-result
invariant_of-result c = rw c.in-Ok.ensures.cases c.self.invariant
