-- What is stored stays apart.
use Rattle.std.proofs.Common.{sym, ◌∙◌, subst}
use Rattle.cookie_agent.specs.RowsCode.{held}
use Rattle.cookie_agent.specs.Stored.{IsApart}
use Rattle.cookie_agent.proofs.PutLemmas.{apart-stored}
use Rattle.cookie_agent.proofs.store.Store.put.Goals as goal

pub invariant_of-self-2 : goal.invariant_of-self-2
invariant_of-self-2 c =
    let left = c.evict.ensures in
    record {
      apart = subst IsApart (sym (left.cookies ∙ c.in_ok-put.ensures.ok)) (apart-stored c.args.now c.args.cookie (held c.self.inside.rows.slots.items) c.self.invariant.apart);
      rows = left.rows;
    }

-- after an error the cookies are as before
pub invariant_of-self : goal.invariant_of-self
invariant_of-self c =
    let failed = c.in_err-put.ensures in
    record {
      apart = subst IsApart (sym failed.err) c.self.invariant.apart;
      rows = failed.rows;
    }
