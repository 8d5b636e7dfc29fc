-- Some of the expired cookies are gone. Each turn takes a number off the list.
use Rattle.cookie_browser.specs.Storage.{lasts}
use Rattle.cookie_agent.specs.ExpiriesCode.{listed_len}
use Rattle.cookie_agent.specs.RowsCode.{AreRows}
use Rattle.cookie_agent.proofs.TimedLemmas.{IsRid}
use Rattle.cookie_agent.proofs.rows.Rows.evict.Given as goal

abbrev pub invariant-loop-place : goal.invariant-loop-place
invariant-loop-place l = record {
  rows : AreRows l.self;
  rid : IsRid (λ c. lasts c.expiry l.now) l.initial.self.slots.items l.self.slots.items;
}

abbrev pub decreases-loop-place : goal.decreases-loop-place
decreases-loop-place l = listed_len l.self.expiries
