use Rattle.std.proofs.Common.{◌≡◌, take}
use Rattle.std.specs.List.{concat}
use Rattle.cookie_c.specs.Revoked.{opened_ids}
use Rattle.cookie_c.proofs.sessions.opened_sessions.OpenedSessions.ids.Given as goal

-- the bytes so far are those of the ids so far
abbrev pub invariant-loop-one : goal.invariant-loop-one
invariant-loop-one l = l.ids.items ≡ concat (take l.one-index (opened_ids l.self))
