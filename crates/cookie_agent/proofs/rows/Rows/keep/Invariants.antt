-- The slots so far have the cookies at the first places, and the others are as before.
use Rattle.std.proofs.Common.{◌≤◌}
use Rattle.cookie_agent.specs.RowsCode.{AreRows}
use Rattle.cookie_agent.proofs.SlotLemmas.{IsKept}
use Rattle.cookie_agent.proofs.rows.Rows.keep.Given as goal

abbrev pub invariant-loop-slot : goal.invariant-loop-slot
invariant-loop-slot l = record {
  rows : AreRows l.self;
  few : l.place ≤ l.slot;
  walk : IsKept l.initial.self.slots.items l.places l.self.slots.items l.slot l.place l.kept;
}
