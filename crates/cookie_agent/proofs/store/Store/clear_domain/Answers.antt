-- What is left is what isn't of the domain, and is apart.
use Rattle.std.proofs.Common.{Bool, not, sym, subst}
use Rattle.cookie_browser.specs.Storage.{KeptView}
use Rattle.cookie_agent.specs.Stored.{IsApart, is_of_domain}
use Rattle.cookie_agent.specs.RowsCode.{held}
use Rattle.cookie_agent.proofs.PutLemmas.{apart-filter}
use Rattle.cookie_agent.proofs.store.Store.clear_domain.Goals as goal

pub invariant_of-self : goal.invariant_of-self
invariant_of-self c =
    let inside = c.self.inside in
    let test : KeptView → Bool = λ d. not (is_of_domain c.args.domain.now d) in
    record {
      apart = subst IsApart (sym c.clear_domain.ensures.cookies) (apart-filter test (held inside.rows.slots.items) c.self.invariant.apart);
      rows = c.clear_domain.ensures.rows;
    }
