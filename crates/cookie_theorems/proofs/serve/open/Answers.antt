use Rattle.std.proofs.Common.{◌∙◌, inl, Err, refl, ap}
use Rattle.cookie_session.specs.Seconds.{second_of}
use Rattle.cookie_theorems.proofs.ServeLemmas.{failed_open, refused_leaves}
use Rattle.cookie_theorems.proofs.serve.open.Goals as goal

pub returns-in_ok-push-in-Ok-clause-opened : goal.returns-in_ok-push-in-Ok-clause-opened
returns-in_ok-push-in-Ok-clause-opened g c kept = inl (refl, record { visit = c.in-Ok.visit; jar = c.new-jar.result }, c.in-Ok.ensures.visit kept, c.in_ok-push-in-Ok.ensures.items)

pub returns-in-Err-clause-opened : goal.returns-in-Err-clause-opened
returns-in-Err-clause-opened g c kept =
    let was = c.in-Err.is in
    failed_open g.row.R-Error.Denot g.row.G-Error.Denot (g.R.Revocations.revoked_until c.args.revocations.now) c.args.request.now c.args.visits.now.items c.in-Err.error c.unchanged.result
    c.unchanged.ensures.refused c.unchanged.ensures.failed (λ is. c.visit_of.ensures.never (was ∙ ap Err is)) (λ why is. c.visit_of.ensures.fails why (was ∙ ap Err is))

pub returns-in-Err-clause-leaves : goal.returns-in-Err-clause-leaves
returns-in-Err-clause-leaves g c kept =
    let set = g.R.Revocations.revoked_until in
    refused_leaves g.row.R-Error.Denot (second_of c.args.request.now.time) (set c.args.revocations.now) (set c.visit_of.new.revocations) c.in-Err.error c.unchanged.result
    c.unchanged.ensures.refused c.unchanged.ensures.failed (λ is. c.visit_of.ensures.never (c.in-Err.is ∙ ap Err is)) (c.visit_of.ensures.same kept)
