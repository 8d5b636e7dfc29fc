use Rattle.std.proofs.Common.{[], subst}
use Rattle.std.specs.Prelude.{IfOk}
use Rattle.cookie_browser.specs.RefusedCode.{request_view}
use Rattle.cookie_browser.specs.Storage.{verdict_on}
use Rattle.cookie_c.specs.ExplanationParts.{IsDraftOf}
use Rattle.cookie_c.proofs.explanation.draft.Draft.of.Goals as goal

pub returns-in_ok-domain-in-Ok : goal.returns-in_ok-domain-in-Ok
returns-in_ok-domain-in-Ok c =
    subst (λ r. IfOk c.of_received.result (IsDraftOf c.args.now (verdict_on c.args.suffixes.now (request_view c.args.request) c.args.now [] r)))
    c.in-Ok.ensures.value c.of_received.ensures

pub returns-in-Err : goal.returns-in-Err
returns-in-Err c =
    subst (λ r. IfOk c.of_refusal.result (IsDraftOf c.args.now (verdict_on c.args.suffixes.now (request_view c.args.request) c.args.now [] r)))
    c.in-Err.ensures.value (c.of_refusal.ensures c.args.now)
