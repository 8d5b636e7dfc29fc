-- What was found, and what is still to be found, is all.
use Rattle.std.proofs.Common.{◌≡◌, ◌++◌, drop}
use Rattle.cookie_agent.specs.Beyond.{visible_beyond}
use Rattle.cookie_agent.specs.SentCode.{targets}
use Rattle.cookie_agent.proofs.browser_agent.visible.Given as goal

abbrev pub invariant-loop-cookie : goal.invariant-loop-cookie
invariant-loop-cookie l =
    targets l.sent.items ++ visible_beyond l.choices l.site l.top l.now (drop l.cookie-index l.cookies)
    ≡ visible_beyond l.choices l.site l.top l.now l.cookies
