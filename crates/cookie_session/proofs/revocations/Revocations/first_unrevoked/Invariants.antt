use Rattle.std.proofs.Common.{All, take}
use Rattle.cookie_session.specs.Revocations.{AreSame, IsRevoked}
use Rattle.cookie_session.proofs.revocations.Revocations.first_unrevoked.Given as goal

-- nothing was revoked, and the ids so far are revoked
abbrev pub invariant-loop-place : goal.invariant-loop-place
invariant-loop-place g l =
    let set = g.Self.Revocations.revoked_until in
    g.Self.Revocations.is_intact l.self → g.Self.Revocations.is_intact l.initial.self
    × AreSame (set l.initial.self) (set l.self)
    × All (IsRevoked (set l.initial.self)) (take l.place l.ids)
