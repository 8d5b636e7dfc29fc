-- Each cookie is listed at its domain.
use Rattle.std.proofs.lemmas.Result.{IfOk-weaker}
use Rattle.cookie_agent.specs.IndexCode.{is_around}
use Rattle.cookie_agent.specs.RowsCode.{slot_at}
use Rattle.cookie_agent.proofs.SlotLemmas.{has_some}
use Rattle.cookie_agent.proofs.rows.Rows.places_around.Goals as goal

pub returns : goal.returns
returns c = IfOk-weaker c.around.result _ _ (λ places found place near.
    let cookie = has_some (λ o. is_around c.args.domain.now o.domain) (slot_at c.args.self.now.slots.items place) near in
    found cookie.0.domain place cookie.2 (c.requires.listed place cookie.0 cookie.1)) c.around.ensures
