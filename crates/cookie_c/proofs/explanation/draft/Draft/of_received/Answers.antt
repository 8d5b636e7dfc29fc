use Rattle.std.proofs.Common.{Some, None, Ok, ap, subst, ◌∙◌}
use Rattle.std.specs.Prelude.{IfOk}
use Rattle.jiff.specs.Words.{civil_nanos}
use Rattle.cookie_browser.specs.Received.{ReceivedView}
use Rattle.cookie_browser.specs.ReceivedCode.{received_view}
use Rattle.cookie_browser.specs.RefusedCode.{kept_view, request_view}
use Rattle.cookie_browser.specs.Storage.{KeptView, kept_until}
use Rattle.cookie_c.specs.ExplanationParts.{IsDraftOf}
use Rattle.cookie_c.proofs.ExplainLemmas.{verdict_by}
use Rattle.cookie_c.proofs.explanation.draft.Draft.of_received.Goals as goal

pub returns-in-Some : goal.returns-in-Some
returns-in-Some c =
    let now = c.args.now in
    subst (λ v. IfOk c.of_refusal.result (IsDraftOf now v))
    (verdict_by c.args.suffixes.now (request_view c.args.request.now) now (received_view c.args.received.now) (Some c.in-Some.refusal)
    (kept_view c.of-new.result) (c.of-new.ensures now) c.in-Some.ensures.value)
    (c.of_refusal.ensures now)

pub returns-in-None : goal.returns-in-None
returns-in-None c =
    let now = c.args.now in
    let read : ReceivedView = received_view c.args.received.now in
    subst (λ v. IfOk c.of_cookie.result (IsDraftOf now v))
    (ap (λ (k : KeptView). Ok (record k { expiry = kept_until now read.attributes.max_age read.attributes.expires; last_access = civil_nanos now })) (c.of-new.ensures now)
    ∙ verdict_by c.args.suffixes.now (request_view c.args.request.now) now read None (kept_view c.of-new.result) (c.of-new.ensures now) c.in-None.ensures.value)
    (c.of_cookie.ensures now (kept_until now read.attributes.max_age read.attributes.expires) (civil_nanos now) c.lifetime.ensures)
