use Rattle.std.proofs.Common.{ap}
use Rattle.cookie_browser.specs.ExpiryCode.{expiry_time}
use Rattle.cookie_c.proofs.AgentLemmas.{left_told}
use Rattle.cookie_c.proofs.explanation.draft.seconds_left.Goals as goal

pub returns-in-After : goal.returns-in-After
returns-in-After c =
    left_told c.args.now c.in-After.moment c.in-After.age c.duration_since-in-After.result c.checked_sub.result (expiry_time c.args.expiry) c.seconds_of.result
    (ap expiry_time c.in-After.is) c.duration_since-in-After.ensures c.checked_sub.ensures.succeeds c.checked_sub.ensures.value c.seconds_of.ensures
