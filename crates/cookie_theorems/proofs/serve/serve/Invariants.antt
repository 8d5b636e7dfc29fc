use Rattle.cookie_theorems.proofs.ActLemmas.{Stands}
use Rattle.cookie_theorems.proofs.serve.serve.Given as goal

-- what holds after the acts so far
abbrev pub invariant-loop-act : goal.invariant-loop-act
invariant-loop-act g l =
    let can_fail = g.row.R-Error.Denot in
    let can_want = g.row.G-Error.Denot in
    let set = g.R.Revocations.revoked_until in
    g.R.Revocations.is_intact l.revocations → g.R.Revocations.is_intact l.initial.revocations
    × (g.R.Revocations.can_revoke → Stands can_fail can_want set l.acts l.initial.revocations l.act-index l.visits.items l.revocations l.events.items)
