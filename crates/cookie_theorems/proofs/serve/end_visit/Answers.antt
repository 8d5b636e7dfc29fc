use Rattle.std.proofs.Common.{◌∙◌, inl, inr, Ok, Err, refl, sym, ap, subst}
use Rattle.cookie_session.specs.Endings.{MayBeSpent}
use Rattle.cookie_session.specs.Seconds.{second_of}
use Rattle.cookie_session.specs.declared.pass.Pass.{Pass}
use Rattle.cookie_theorems.proofs.ServeLemmas.{failed_leaves, failed_logout, given_one, same_sets}
use Rattle.cookie_theorems.proofs.serve.end_visit.Goals as goal

pub returns-in_default-clause-logged_out : goal.returns-in_default-clause-logged_out
returns-in_default-clause-logged_out g c kept can =
    inl (refl, sym c.given.ensures ∙ c.in_default.is)

pub returns-in-Ok-Ended-clause-logged_out : goal.returns-in-Ok-Ended-clause-logged_out
returns-in-Ok-Ended-clause-logged_out g c kept can =
    inr (c.in-Some.pass, sym c.given.ensures ∙ c.in-Some.is, inl (inl refl))

pub returns-in-Ok-Ended-clause-leaves : goal.returns-in-Ok-Ended-clause-leaves
returns-in-Ok-Ended-clause-leaves g c kept can =
    let set = g.R.Revocations.revoked_until in
    let old = set c.args.revocations.now in
    let new = set c.log_out.new.revocations in
    let says = c.log_out.ensures in
    let pass = c.in-Some.pass in
    let given = sym c.given.ensures ∙ c.in-Some.is in
    says.ended pass given kept can (c.in-Ok-Ended.is ∙ ap Ok c.in-Ok-Ended.field-0-is)

pub returns-in-Ok-Nobody-clause-logged_out : goal.returns-in-Ok-Nobody-clause-logged_out
returns-in-Ok-Nobody-clause-logged_out g c kept can =
    inl (refl, c.log_out.ensures.nobody.1 (c.in-Ok-Nobody.is ∙ ap Ok c.in-Ok-Nobody.field-0-is))

pub returns-in-Ok-Nobody-clause-leaves : goal.returns-in-Ok-Nobody-clause-leaves
returns-in-Ok-Nobody-clause-leaves g c kept can =
    let set = g.R.Revocations.revoked_until in
    let old = set c.args.revocations.now in
    let new = set c.log_out.new.revocations in
    let says = c.log_out.ensures in
    let pass = c.in-Some.pass in
    let given = sym c.given.ensures ∙ c.in-Some.is in
    same_sets old new (ap set (says.unasked (says.nobody.1 (c.in-Ok-Nobody.is ∙ ap Ok c.in-Ok-Nobody.field-0-is))))

pub returns-in-Ok-Gone-clause-logged_out : goal.returns-in-Ok-Gone-clause-logged_out
returns-in-Ok-Gone-clause-logged_out g c kept can =
    inr (c.in-Some.pass, sym c.given.ensures ∙ c.in-Some.is, inl (inr refl))

pub returns-in-Ok-Gone-clause-leaves : goal.returns-in-Ok-Gone-clause-leaves
returns-in-Ok-Gone-clause-leaves g c kept can =
    let set = g.R.Revocations.revoked_until in
    let old = set c.args.revocations.now in
    let new = set c.log_out.new.revocations in
    let says = c.log_out.ensures in
    let pass = c.in-Some.pass in
    let given = sym c.given.ensures ∙ c.in-Some.is in
    says.gone pass given kept can (c.in-Ok-Gone.is ∙ ap Ok c.in-Ok-Gone.field-0-is)

pub returns-clause-logged_out : goal.returns-clause-logged_out
returns-clause-logged_out g c kept can =
    let set = g.R.Revocations.revoked_until in
    let old = set c.args.revocations.now in
    let new = set c.log_out.new.revocations in
    let says = c.log_out.ensures in
    let pass = c.in-Some.pass in
    let given = sym c.given.ensures ∙ c.in-Some.is in
    let told = c.failed.ensures in
    let was = c.in-Err.is in
    failed_logout g.row.R-Error.Denot c.args.handling.visit pass given c.in-Err.error c.failed.result told.refused told.unsure
    (λ why is. (says.memory why (was ∙ ap Err is)).0) (λ is. says.never (was ∙ ap Err is))

pub returns-clause-leaves : goal.returns-clause-leaves
returns-clause-leaves g c kept can =
    let set = g.R.Revocations.revoked_until in
    let old = set c.args.revocations.now in
    let new = set c.log_out.new.revocations in
    let says = c.log_out.ensures in
    let pass = c.in-Some.pass in
    let given = sym c.given.ensures ∙ c.in-Some.is in
    let told = c.failed.ensures in
    let was = c.in-Err.is in
    failed_leaves g.row.R-Error.Denot (second_of c.args.now) pass old new c.in-Err.error c.failed.result told.refused told.gone told.unsure
    (λ why is. same_sets old new (ap set (says.memory why (was ∙ ap Err is)).1))
    (λ is. absurd (says.never (was ∙ ap Err is)))
    (λ why is. let unsure = says.unsure why (was ∙ ap Err is) in subst (λ (p : Pass). MayBeSpent p old new) (given_one c.args.handling.visit pass unsure.0 given unsure.1) (unsure.2 kept))
