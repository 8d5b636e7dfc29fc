use Rattle.std.proofs.Common.{take}
use Rattle.std.specs.List.{AllZip}
use Rattle.cookie_theorems.specs.Revoking.{IsAmong}
use Rattle.cookie_theorems.proofs.RevokingLemmas.{Stands}
use Rattle.cookie_theorems.proofs.revoke_and_open.open_each.Given as goal

-- what holds after the requests so far
abbrev pub invariant-loop-request : goal.invariant-loop-request
invariant-loop-request g l =
    let set = g.R.Revocations.revoked_until in
    (g.R.Revocations.is_intact l.revocations → g.R.Revocations.is_intact l.initial.revocations
    × Stands (set l.initial.revocations) l.requests l.request-index (set l.revocations) l.answers.items)
    × AllZip IsAmong (take l.request-index l.requests) l.answers.items
