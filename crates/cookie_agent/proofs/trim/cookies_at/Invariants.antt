-- The cookies so far are those at the places so far.
use Rattle.std.proofs.Common.{◌≡◌, take}
use Rattle.cookie_agent.specs.LimitsCode.{picked}
use Rattle.cookie_agent.specs.SentCode.{targets}
use Rattle.cookie_agent.proofs.trim.cookies_at.Given as goal

abbrev pub invariant-loop-place : goal.invariant-loop-place
invariant-loop-place l = targets l.made.items ≡ picked (targets l.cookies) (take l.place-index l.places)
