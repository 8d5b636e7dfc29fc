-- The agent's rules and cookies are those of its fields.
use Rattle.std.proofs.Common.{◌≡◌, ap, ◌∙◌}
use Rattle.std.proofs.lemmas.Result.{on_ok_weaker}
use Rattle.cookie_browser.specs.Request.{RequestView}
use Rattle.cookie_agent.specs.Beyond.{BrowserAgentView, DatedStore, without_excess}
use Rattle.cookie_agent.proofs.browser_agent.BrowserAgent.trim_site.Goals as goal

pub returns-clause-ok : goal.returns-clause-ok
returns-clause-ok c =
    let inside = c.self.inside in
    let with : DatedStore → BrowserAgentView = λ l. record { rules = inside.suffixes.now; choices = inside.choices; cookies = l } in
    let host : c.request.result.host.now ≡ c.args.site.now.host = ap (λ (r : RequestView). r.host) c.request.ensures in
    on_ok_weaker c.trim_site.result
    (λ ok. ap with (ok ∙ ap (λ h. without_excess inside.suffixes.now h c.args.now inside.cookies.items) host)
    ∙ ap (λ (a : BrowserAgentView). record a { cookies = without_excess a.rules c.args.site.now.host c.args.now a.cookies }) c.self.view_is)
    c.trim_site.ensures.ok
