-- The slots that were passed are empty.
use Rattle.std.proofs.Common.{◌≡◌, length}
use Rattle.cookie_agent.specs.RowsCode.{held}
use Rattle.cookie_agent.proofs.cookies.CookiesIterator.next.Given as goal

abbrev pub invariant-loop-slot : goal.invariant-loop-slot
invariant-loop-slot l = held l.initial.self-inside.slots.now ≡ held l.self-inside.slots.now

abbrev pub decreases-loop-slot : goal.decreases-loop-slot
decreases-loop-slot l = length l.self-inside.slots.now
