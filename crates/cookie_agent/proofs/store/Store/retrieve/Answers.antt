-- An access leaves what is stored apart, and until when none is expired.
use Rattle.std.proofs.Common.{sym, subst}
use Rattle.cookie_browser.specs.Storage.{CookieStore}
use Rattle.cookie_agent.specs.RowsCode.{held}
use Rattle.cookie_agent.specs.Stored.{IsApart}
use Rattle.cookie_agent.proofs.PutLemmas.{apart-accessed}
use Rattle.cookie_agent.proofs.store.Store.retrieve.Goals as goal

pub invariant_of-self : goal.invariant_of-self
invariant_of-self c =
    let inside = c.self.inside in
    let cookies : CookieStore = held inside.rows.slots.items in
    let after = c.access.ensures in
    record {
      apart = subst IsApart (sym after.cookies) (apart-accessed c.args.site.now c.args.now cookies c.self.invariant.apart);
      rows = after.rows;
    }
