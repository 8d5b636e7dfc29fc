-- What is left is apart.
use Rattle.std.proofs.Common.{sym, subst}
use Rattle.cookie_browser.specs.Storage.{lasts}
use Rattle.cookie_agent.specs.RowsCode.{held}
use Rattle.cookie_agent.specs.Stored.{IsApart}
use Rattle.cookie_agent.proofs.PutLemmas.{apart-filter}
use Rattle.cookie_agent.proofs.store.Store.evict.Goals as goal

pub invariant_of-self : goal.invariant_of-self
invariant_of-self c =
    let left = c.evict.ensures in
    record {
      apart = subst IsApart (sym left.cookies) (apart-filter (λ d. lasts d.expiry c.args.now) (held c.self.inside.rows.slots.items) c.self.invariant.apart);
      rows = left.rows;
    }
