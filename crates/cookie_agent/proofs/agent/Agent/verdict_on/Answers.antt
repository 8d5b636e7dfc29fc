-- The first refusal, or the cookie with its times, is what the definition says.
use Rattle.std.proofs.Common.{◌≡◌, List, Some, None, Ok, ap, ◌∙◌}
use Rattle.jiff.specs.Words.{civil_nanos}
use Rattle.cookie_browser.specs.Received.{ReceivedView}
use Rattle.cookie_browser.specs.ReceivedCode.{received_view}
use Rattle.cookie_browser.specs.RefusedCode.{kept_view, request_view}
use Rattle.cookie_browser.specs.Storage.{CookieStore, KeptView, kept_as, kept_until, lasting, overlays}
use Rattle.cookie_browser.specs.Suffixes.{Rule}
use Rattle.cookie_agent.specs.Store.{AgentView}
use Rattle.cookie_agent.proofs.RefusalLemmas.{verdict_by}
use Rattle.cookie_agent.proofs.agent.Agent.verdict_on.Goals as goal

pub returns-in-Some : goal.returns-in-Some
returns-in-Some c =
    let now = c.args.now in
    let store : CookieStore = lasting now c.args.self.now.cookies in
    let overlaid : c.in_ok-overlays.overlays ≡ overlays (request_view c.request-request.result) store (kept_view c.of-new.result)
    = c.in_ok-overlays.ensures ∙ ap (λ s. overlays (request_view c.request-request.result) (lasting now s) (kept_view c.of-new.result))
    (ap (λ (a : AgentView). a.cookies) c.self.view_is) in
    verdict_by c.args.self.now.rules c.self.inside.suffixes.now c.args.site.now (request_view c.request-request.result) now
    store (received_view c.args.received.now) (kept_view c.of-new.result) (Some c.in-Some.refusal)
    (ap (λ (a : AgentView). a.rules) c.self.view_is)
    c.request-request.ensures
    (c.of-new.ensures now)
    (c.in-Some.ensures store overlaid)

pub returns : goal.returns
returns c =
    let now = c.args.now in
    let rules : List Rule = c.self.inside.suffixes.now in
    let by_rules : rules ≡ c.args.self.now.rules = ap (λ (a : AgentView). a.rules) c.self.view_is in
    let read : ReceivedView = received_view c.args.received.now in
    let store : CookieStore = lasting now c.args.self.now.cookies in
    let overlaid : c.in_ok-overlays.overlays ≡ overlays (request_view c.request-request.result) store (kept_view c.of-new.result)
    = c.in_ok-overlays.ensures ∙ ap (λ s. overlays (request_view c.request-request.result) (lasting now s) (kept_view c.of-new.result))
    (ap (λ (a : AgentView). a.cookies) c.self.view_is) in
    let made : c.in_ok-of.field-0 ≡ kept_as c.args.self.now.rules c.args.site.now now read =
    c.in_ok-of.ensures
    ∙ ap (λ e. record (kept_view c.of-new.result) { expiry = e; last_access = civil_nanos now }) c.of-expiry.ensures
    ∙ ap (λ (k : KeptView). record k { expiry = kept_until now read.attributes.max_age read.attributes.expires; last_access = civil_nanos now }) (c.of-new.ensures now)
    ∙ ap (λ s. kept_as rules s now read) c.request-request.ensures
    ∙ ap (λ r. kept_as r c.args.site.now now read) by_rules in
    ap (λ k. Ok k) made
    ∙ verdict_by c.args.self.now.rules rules c.args.site.now (request_view c.request-request.result) now
    store read (kept_view c.of-new.result) None
    by_rules
    c.request-request.ensures
    (c.of-new.ensures now)
    (c.in_default.ensures store overlaid)
