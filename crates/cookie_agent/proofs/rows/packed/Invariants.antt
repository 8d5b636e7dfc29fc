-- The cookies of the slots so far are in the index, and listed at their expiries.
use Rattle.cookie_agent.specs.ExpiriesCode.{IsTimed}
use Rattle.cookie_agent.specs.IndexCode.{Lists}
use Rattle.cookie_agent.proofs.SlotLemmas.{IsPacked}
use Rattle.cookie_agent.proofs.rows.packed.Given as goal

abbrev pub invariant-loop-slot : goal.invariant-loop-slot
invariant-loop-slot l = IsPacked l.slots (λ k c. Lists l.index c.domain k × IsTimed l.expiries k c.expiry) l.slot-index l.number
