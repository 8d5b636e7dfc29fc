use Rattle.std.proofs.Common.{◌≡◌, ◌==◌, true, false, Some, sym, ap, rules, of_z, w64, FitsSigned, ◌∙◌}
use Rattle.std.proofs.lemmas.Int.{to_z-of_z}
use Rattle.jiff.specs.Words.{civil_nanos}
use Rattle.cookie_core.specs.Attributes.{nanos_of_seconds}
use Rattle.cookie_browser.specs.ExpiryCode.{expiry_time}
use Rattle.cookie_browser.specs.RefusedCode.{kept_view}
use Rattle.cookie_agent.specs.CookiesTxt.{has_fields}
use Rattle.cookie_agent.specs.CookiesTxtCode.{dated}
use Rattle.cookie_agent.specs.Storable.{limited}
use Rattle.cookie_agent.specs.declared.saved.line.Line.TheVariants as line
use Rattle.cookie_agent.proofs.CookiesTxtLemmas.{line_of-is, nonzero}
use Rattle.cookie_agent.proofs.saved.cookies_txt.line_of.Goals as goal

pub returns : goal.returns
returns c count same =
    let kept = kept_view c.args.cookie.now in
    let now = c.args.now in
    let fits : FitsSigned w64 c.args.seconds = search rules in
    let has : has_fields kept ≡ true = search rules in
    let some : (count == 0) ≡ false = nonzero count (λ e. c.if-seconds-eq0.false (ap (of_z w64) (same ∙ e))) in
    let expiry : expiry_time c.limited-expiry.result ≡ limited now (Some (nanos_of_seconds count)) = c.limited-expiry.ensures ∙ ap (limited now) (c.expiry_of.ensures count (to_z-of_z w64 c.args.seconds fits ∙ same)) in
    ap line.Cookie (c.in_ok-of.ensures ∙ ap (λ e. record kept { expiry = e; last_access = civil_nanos now }) expiry)
    ∙ sym (line_of-is now count (dated count now kept) has some)
