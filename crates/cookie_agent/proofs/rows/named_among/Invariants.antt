-- No slot so far has the cookie.
use Rattle.std.proofs.Common.{◌≡◌, ℕ, ◌<◌, false}
use Rattle.cookie_agent.specs.RowsCode.{has, slot_at}
use Rattle.cookie_agent.specs.Stored.{is_named_in}
use Rattle.cookie_agent.proofs.rows.named_among.Given as goal

abbrev pub invariant-loop-place : goal.invariant-loop-place
invariant-loop-place l = (k : ℕ) → k < l.place → has (is_named_in l.name l.scope) (slot_at l.slots k) ≡ false
