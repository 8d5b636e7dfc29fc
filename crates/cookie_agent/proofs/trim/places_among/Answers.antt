-- No domain, no site and not the whole has more than its limit.
use Rattle.cookie_browser.specs.Storage.{CookieStore}
use Rattle.cookie_agent.specs.LimitsCode.{picked}
use Rattle.cookie_agent.specs.SentCode.{targets}
use Rattle.cookie_agent.proofs.TrimLemmas.{is_within}
use Rattle.cookie_agent.proofs.trim.places_among.Goals as goal

pub returns-clause-within : goal.returns-clause-within
returns-clause-within c =
    let store : CookieStore = targets c.args.cookies.now in
    let rules = c.args.suffixes.now in
    is_within rules c.args.limits (picked store c.in_ok-places-2.places.items) (picked store c.in_ok-places-3.places.items) (picked store c.in_ok-places-4.places.items)
    c.in_ok-places-2.ensures.few
    c.in_ok-places-3.ensures.value
    c.in_ok-places-3.ensures.few
    c.in_ok-places-4.ensures.value
    c.in_ok-places-4.ensures.few
