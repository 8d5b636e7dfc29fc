use Rattle.std.proofs.Common.{◌≡◌, true, Some, sym, ap, rules, w64, FitsSigned, ◌∙◌}
use Rattle.std.proofs.lemmas.Bool.{cond-true}
use Rattle.std.proofs.lemmas.Int.{to_z-of_z}
use Rattle.jiff.specs.Words.{civil_nanos}
use Rattle.cookie_browser.specs.ExpiryCode.{expiry_time}
use Rattle.cookie_browser.specs.RefusedCode.{kept_view}
use Rattle.cookie_browser.specs.Storage.{earlier_of}
use Rattle.cookie_agent.specs.JsonLines.{json_cookie}
use Rattle.cookie_agent.specs.JsonLinesCode.{dated}
use Rattle.cookie_agent.specs.Storable.{is_storable, limited}
use Rattle.cookie_agent.specs.declared.saved.line.Line.TheVariants as line
use Rattle.cookie_agent.proofs.saved.json_lines.line_at.Goals as goal

pub returns : goal.returns
returns c =
    let kept = kept_view c.args.cookie.now in
    let now = c.args.now in
    let times = c.args.times in
    let expiry_fits : FitsSigned w64 times.expiry = search rules in
    let access_fits : FitsSigned w64 times.last_access = search rules in
    let has : is_storable kept ≡ true = search rules in
    let expiry : expiry_time c.limited-expiry.result ≡ limited now (Some times.expiry)
    = c.limited-expiry.ensures ∙ ap (limited now) (c.expiry_at.ensures ∙ ap Some (to_z-of_z w64 times.expiry expiry_fits)) in
    let access : civil_nanos c.earlier_of-last_access.result ≡ earlier_of times.last_access (civil_nanos now)
    = c.earlier_of-last_access.ensures ∙ ap (λ t. earlier_of t (civil_nanos now)) (c.time_at.ensures ∙ to_z-of_z w64 times.last_access access_fits) in
    ap line.Cookie (c.in_ok-of.ensures
    ∙ ap (λ e. record kept { expiry = e; last_access = civil_nanos c.earlier_of-last_access.result }) expiry
    ∙ ap (λ t. record kept { expiry = limited now (Some times.expiry); last_access = t }) access)
    ∙ sym (cond-true (is_storable kept) (line.Cookie (json_cookie now (dated times kept))) line.Bad has)
