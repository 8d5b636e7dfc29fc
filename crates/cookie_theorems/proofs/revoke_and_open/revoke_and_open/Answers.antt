use Rattle.std.proofs.Common.{inl, inr}
use Rattle.std.proofs.lemmas.Result.{IfOk-weaker, on_err_weaker, on_ok_weaker}
use Rattle.cookie_theorems.proofs.RevokingLemmas.{answers_alike, left_too, left_too_far, on_ok, others_too, revoked_to_end, same_back}
use Rattle.cookie_theorems.specs.Revoking.{revoked_too}
use Rattle.cookie_theorems.proofs.revoke_and_open.revoke_and_open.Goals as goal

pub returns-in-Ok-clause-answers : goal.returns-in-Ok-clause-answers
returns-in-Ok-clause-answers g c kept can =
    let set = g.R.Revocations.revoked_until in
    let too = c.in-Ok.ensures.revoked (c.open_each.ensures.kept kept) can in
    let both = revoked_too c.args.session.now.id c.args.session.now.end (set c.args.revocations.now) in
    let new = set c.revoke.new.revocations in
    IfOk-weaker c.open_each.result _ _ (λ answers are. answers_alike c.args.requests.now answers.items new both (same_back both new too) are) (c.open_each.ensures.answers kept)

pub returns-in-Ok-clause-refused : goal.returns-in-Ok-clause-refused
returns-in-Ok-clause-refused g c kept can order =
    let set = g.R.Revocations.revoked_until in
    let too = c.in-Ok.ensures.revoked (c.open_each.ensures.kept kept) can in
    c.open_each.ensures.refused kept c.args.session.now order
    (revoked_to_end c.args.session.now (set c.args.revocations.now) (set c.revoke.new.revocations) too)

pub returns-in-Ok-clause-others : goal.returns-in-Ok-clause-others
returns-in-Ok-clause-others g c kept can =
    let set = g.R.Revocations.revoked_until in
    let too = c.in-Ok.ensures.revoked (c.open_each.ensures.kept kept) can in
    IfOk-weaker c.open_each.result _ _
    (λ answers all. others_too c.args.session.now (set c.args.revocations.now) (set c.revoke.new.revocations) too c.args.requests.now answers.items all)
    (c.open_each.ensures.others kept)

pub returns-in-Ok-clause-stays : goal.returns-in-Ok-clause-stays
returns-in-Ok-clause-stays g c kept can early =
    let set = g.R.Revocations.revoked_until in
    let too = c.in-Ok.ensures.revoked (c.open_each.ensures.kept kept) can in
    on_ok c.open_each.result (c.open_each.ensures.stays kept c.args.session.now early
    (revoked_to_end c.args.session.now (set c.args.revocations.now) (set c.revoke.new.revocations) too))

pub returns-in-Ok-clause-forgotten : goal.returns-in-Ok-clause-forgotten
returns-in-Ok-clause-forgotten g c kept can =
    let set = g.R.Revocations.revoked_until in
    let too = c.in-Ok.ensures.revoked (c.open_each.ensures.kept kept) can in
    on_ok_weaker c.open_each.result
    (left_too c.args.session.now (set c.args.revocations.now) (set c.revoke.new.revocations) too c.args.requests.now (set c.open_each.new.revocations))
    (c.open_each.ensures.forgotten kept)

pub returns-in-Ok-clause-err : goal.returns-in-Ok-clause-err
returns-in-Ok-clause-err g c kept can =
    let set = g.R.Revocations.revoked_until in
    let too = c.in-Ok.ensures.revoked (c.open_each.ensures.kept kept) can in
    on_err_weaker c.open_each.result
    (λ left. inr (left_too_far c.args.session.now (set c.args.revocations.now) (set c.revoke.new.revocations) too c.args.requests.now (set c.open_each.new.revocations) left))
    (c.open_each.ensures.err kept)

pub returns-in-Err-clause-err : goal.returns-in-Err-clause-err
returns-in-Err-clause-err g c kept can = elim (c.in-Err.ensures.err kept) [ inl same ↦ inl same | inr too ↦ inr (0, too) ]
