use Rattle.std.proofs.Common.{inr, subst}
use Rattle.std.proofs.lemmas.Result.{IfOk-weaker}
use Rattle.cookie_session.specs.Revocations.{AreForgotten}
use Rattle.cookie_session.specs.Seconds.{second_of}
use Rattle.cookie_theorems.specs.Revoking.{IsAnswer, left_at}
use Rattle.cookie_theorems.proofs.RevokingLemmas.{answer_alike, on_err, on_ok, same_then}
use Rattle.cookie_theorems.proofs.revoke_and_open.open_one.Goals as goal

pub returns-clause-answers : goal.returns-clause-answers
returns-clause-answers g c kept =
    let set = g.R.Revocations.revoked_until in
    let old = set c.forget.new.self in
    let new = set c.open_request.new.revocations in
    IfOk-weaker c.open_request.result (IsAnswer old c.args.request.now) (IsAnswer new c.args.request.now)
    (λ answer is. answer_alike old new (c.open_request.ensures.same kept) c.args.request.now answer is) (c.open_request.ensures.answers kept)

pub returns-clause-forgotten : goal.returns-clause-forgotten
returns-clause-forgotten g c kept =
    let set = g.R.Revocations.revoked_until in
    let old = set c.args.revocations.now in
    let now = second_of c.args.request.now.time in
    let forgotten : AreForgotten now old (set c.forget.new.self) =
    subst (λ n. AreForgotten n old (set c.forget.new.self)) c.second_of.ensures.value (c.in_default.ensures.forgotten (c.open_request.ensures.kept kept)) in
    on_ok c.open_request.result (same_then (left_at now old) (set c.forget.new.self) (set c.open_request.new.revocations) forgotten (c.open_request.ensures.same kept))

pub returns-clause-err : goal.returns-clause-err
returns-clause-err g c kept =
    let set = g.R.Revocations.revoked_until in
    let old = set c.args.revocations.now in
    let now = second_of c.args.request.now.time in
    let forgotten : AreForgotten now old (set c.forget.new.self) =
    subst (λ n. AreForgotten n old (set c.forget.new.self)) c.second_of.ensures.value (c.in_default.ensures.forgotten (c.open_request.ensures.kept kept)) in
    on_err c.open_request.result (inr (same_then (left_at now old) (set c.forget.new.self) (set c.open_request.new.revocations) forgotten (c.open_request.ensures.same kept)))
