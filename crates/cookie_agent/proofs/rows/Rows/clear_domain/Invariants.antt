-- The slots so far are without the cookies that go, and the others are as before.
use Rattle.std.proofs.Common.{not}
use Rattle.cookie_agent.specs.RowsCode.{AreRows}
use Rattle.cookie_agent.specs.Stored.{is_of_domain}
use Rattle.cookie_agent.proofs.SlotLemmas.{IsSwept}
use Rattle.cookie_agent.proofs.rows.Rows.clear_domain.Given as goal

abbrev pub invariant-loop-place : goal.invariant-loop-place
invariant-loop-place l = record {
  rows : AreRows l.self;
  swept : IsSwept (λ c. not (is_of_domain l.domain c)) l.initial.self.slots.items l.self.slots.items l.place;
}
