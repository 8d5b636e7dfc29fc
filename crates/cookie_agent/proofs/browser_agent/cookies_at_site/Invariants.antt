-- What was found, and what is still to be found, is all.
use Rattle.std.proofs.Common.{◌≡◌, ◌++◌, drop}
use Rattle.cookie_agent.specs.Beyond.{cookies_at_site}
use Rattle.cookie_agent.proofs.browser_agent.cookies_at_site.Given as goal

abbrev pub invariant-loop-cookie : goal.invariant-loop-cookie
invariant-loop-cookie l =
    l.found.items ++ cookies_at_site l.suffixes l.host (drop l.cookie-index l.cookies) ≡ cookies_at_site l.suffixes l.host l.cookies
