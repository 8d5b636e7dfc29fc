-- The first refusal, or the cookie with its times, is what the definition says.
use Rattle.std.proofs.Common.{◌≡◌, Some, None, Ok, refl, ap, ◌∙◌}
use Rattle.jiff.specs.Words.{civil_nanos}
use Rattle.cookie_browser.specs.Received.{ReceivedView}
use Rattle.cookie_browser.specs.ReceivedCode.{received_view}
use Rattle.cookie_browser.specs.RefusedCode.{kept_view, request_view}
use Rattle.cookie_browser.specs.Storage.{CookieStore, KeptView, kept_as, kept_until, lasting}
use Rattle.cookie_agent.specs.Beyond.{undated, unpartitioned}
use Rattle.cookie_agent.proofs.RefusalLemmas.{verdict_by}
use Rattle.cookie_agent.proofs.browser_agent.standard_verdict.Goals as goal

pub returns-in-Some : goal.returns-in-Some
returns-in-Some c =
    let store : CookieStore = lasting c.args.now (undated (unpartitioned c.args.cookies.now)) in
    verdict_by c.args.suffixes.now c.args.suffixes.now c.args.site.now (request_view c.request-request.result) c.args.now
    store (received_view c.args.received.now) (kept_view c.of-new.result) (Some c.in-Some.refusal)
    refl
    c.request-request.ensures
    (c.of-new.ensures c.args.now)
    (c.in-Some.ensures store c.overlays-overlays.ensures)

pub returns : goal.returns
returns c =
    let now = c.args.now in
    let read : ReceivedView = received_view c.args.received.now in
    let store : CookieStore = lasting now (undated (unpartitioned c.args.cookies.now)) in
    let made : c.in_ok-of.field-0 ≡ kept_as c.args.suffixes.now c.args.site.now now read =
    c.in_ok-of.ensures
    ∙ ap (λ e. record (kept_view c.of-new.result) { expiry = e; last_access = civil_nanos now }) c.of-expiry.ensures
    ∙ ap (λ (k : KeptView). record k { expiry = kept_until now read.attributes.max_age read.attributes.expires; last_access = civil_nanos now }) (c.of-new.ensures now)
    ∙ ap (λ s. kept_as c.args.suffixes.now s now read) c.request-request.ensures in
    ap (λ k. Ok k) made
    ∙ verdict_by c.args.suffixes.now c.args.suffixes.now c.args.site.now (request_view c.request-request.result) now
    store read (kept_view c.of-new.result) None
    refl
    c.request-request.ensures
    (c.of-new.ensures now)
    (c.in_default.ensures store c.overlays-overlays.ensures)
