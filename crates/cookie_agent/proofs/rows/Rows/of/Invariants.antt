-- The cookies so far are in the slots.
use Rattle.std.proofs.Common.{◌≡◌, take}
use Rattle.cookie_agent.specs.RowsCode.{AreRows, held}
use Rattle.cookie_agent.specs.SentCode.{targets}
use Rattle.cookie_agent.proofs.rows.Rows.of.Given as goal

abbrev pub invariant-loop-cookie : goal.invariant-loop-cookie
invariant-loop-cookie l = record {
  items : held l.rows.slots.items ≡ targets (take l.cookie-index l.cookies);
  rows : AreRows l.rows;
}
