use Rattle.cookie_browser.specs.ExpiryCode.{expiry_time}
use Rattle.cookie_browser.specs.RefusedCode.{kept_view}
use Rattle.cookie_c.proofs.AgentLemmas.{kept_draft}
use Rattle.cookie_c.proofs.explanation.draft.Draft.of_kept.Goals as goal

pub returns-in-Ok : goal.returns-in-Ok
returns-in-Ok c =
    kept_draft c.args.now c.args.cookie.now (kept_view c.as_kept.result) c.in_ok-lifetime.lifetime (expiry_time c.expiry.result) c.in-Ok.draft
    c.as_kept.ensures c.expiry.ensures c.in_ok-lifetime.ensures c.in-Ok.ensures
