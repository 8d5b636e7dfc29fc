-- The cookies so far that aren't expired are after the others.
use Rattle.std.proofs.Common.{◌≡◌, ◌++◌, take}
use Rattle.cookie_browser.specs.Storage.{lasting}
use Rattle.cookie_agent.specs.SentCode.{targets}
use Rattle.cookie_agent.proofs.store.push_lasting.Given as goal

abbrev pub invariant-loop-cookie : goal.invariant-loop-cookie
invariant-loop-cookie l = targets l.stored.items ≡ targets l.initial.stored.items ++ lasting l.now (take l.cookie-index l.cookies)
