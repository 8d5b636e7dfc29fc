-- The cookies so far are in the list.
use Rattle.std.proofs.Common.{◌≡◌}
use Rattle.cookie_agent.proofs.trim.borrowed.Given as goal

abbrev pub invariant-loop-cookie : goal.invariant-loop-cookie
invariant-loop-cookie l = record {
  can_next : (goal.iterator-loop-cookie).can_next l.cookie-iterator;
  is_finite : (goal.iterator-loop-cookie).is_finite l.cookie-iterator;
  items : l.made.items ≡ l.yielded;
}
