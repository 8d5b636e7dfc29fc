use Rattle.std.proofs.Common.{All, Contains, take}
use Rattle.cookie_c.specs.Revoked.{opened_ids}
use Rattle.cookie_c.proofs.sessions.opened_sessions.OpenedSessions.first_unlisted.Given as goal

-- the ids so far are among the revoked ones
abbrev pub invariant-loop-place : goal.invariant-loop-place
invariant-loop-place l = All (Contains l.revoked) (take l.place (opened_ids l.self))
