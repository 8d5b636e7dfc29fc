use Rattle.std.proofs.Common.{◌+◌, sym, subst, take}
use Rattle.std.specs.List.{AllZip}
use Rattle.cookie_theorems.specs.Revoking.{IsAmong}
use Rattle.cookie_theorems.proofs.RevokingLemmas.{Stands, after_one, among_all, among_more, answered_all, left_all, left_by_error, left_so_far, none_opens, on_err, others_open, stays_left}
use Rattle.cookie_theorems.proofs.revoke_and_open.open_each.Goals as goal

pub loop-request-preserved : goal.loop-request-preserved
loop-request-preserved g c =
    let set = g.R.Revocations.revoked_until in
    let start = set c.args.revocations.now in
    let requests = c.args.requests.now in
    let i = c.loop-request.request-index in (
      λ kept.
          let before = c.loop-request.invariant.0 (c.open_one.ensures.kept kept) in (
            before.0,
            subst (Stands start requests (i + 1) (set c.open_one.new.revocations)) (sym c.in_ok-push.ensures.items)
                (after_one start requests i (set c.loop-request.revocations) (set c.open_one.new.revocations) c.loop-request.answers.items before.1 c.request-item.result
                c.loop-request-test.true c.request-item.is (c.in_ok-opened.ensures.forgotten kept) c.in_ok-opened.opened (c.in_ok-opened.ensures.answers kept)),
          ),
      subst (AllZip IsAmong (take (i + 1) requests)) (sym c.in_ok-push.ensures.items)
          (among_more requests i c.loop-request.answers.items c.loop-request.invariant.1 c.request-item.result c.in_ok-opened.opened
          c.loop-request-test.true c.request-item.is c.in_ok-opened.ensures.sealed),
    )

pub returns-clause-answers : goal.returns-clause-answers
returns-clause-answers g c kept =
    let set = g.R.Revocations.revoked_until in
    answered_all (set c.args.revocations.now) c.args.requests.now c.loop-request.request-index (set c.loop-request.revocations) c.loop-request.answers.items
    (c.loop-request.invariant.0 kept).1 c.loop-request-test.false

pub returns-clause-sealed : goal.returns-clause-sealed
returns-clause-sealed g c =
    among_all c.args.requests.now c.loop-request.request-index c.loop-request.answers.items c.loop-request.invariant.1 c.loop-request-test.false

pub returns-clause-refused : goal.returns-clause-refused
returns-clause-refused g c kept gone order revoked =
    let set = g.R.Revocations.revoked_until in
    none_opens gone c.args.requests.now c.loop-request.answers.items (set c.args.revocations.now) order revoked
    (answered_all (set c.args.revocations.now) c.args.requests.now c.loop-request.request-index (set c.loop-request.revocations) c.loop-request.answers.items
    (c.loop-request.invariant.0 kept).1 c.loop-request-test.false)

pub returns-clause-others : goal.returns-clause-others
returns-clause-others g c kept =
    let set = g.R.Revocations.revoked_until in
    others_open c.args.requests.now c.loop-request.answers.items (set c.args.revocations.now)
    (answered_all (set c.args.revocations.now) c.args.requests.now c.loop-request.request-index (set c.loop-request.revocations) c.loop-request.answers.items
    (c.loop-request.invariant.0 kept).1 c.loop-request-test.false)

pub returns-clause-stays : goal.returns-clause-stays
returns-clause-stays g c kept gone early revoked =
    let set = g.R.Revocations.revoked_until in
    stays_left gone c.args.requests.now (set c.args.revocations.now) (set c.loop-request.revocations)
    (c.loop-request.request-index, (c.loop-request.invariant.0 kept).1.left) early revoked

pub returns-clause-forgotten : goal.returns-clause-forgotten
returns-clause-forgotten g c kept =
    let set = g.R.Revocations.revoked_until in
    left_all (set c.args.revocations.now) c.args.requests.now c.loop-request.request-index (set c.loop-request.revocations) c.loop-request.answers.items
    (c.loop-request.invariant.0 kept).1 c.loop-request-test.false

pub returns-in_err-opened-clause-err : goal.returns-in_err-opened-clause-err
returns-in_err-opened-clause-err g c kept =
    let set = g.R.Revocations.revoked_until in
    on_err c.from_residual.result
    (left_by_error (set c.args.revocations.now) c.args.requests.now c.loop-request.request-index (set c.loop-request.revocations) (set c.open_one.new.revocations) c.loop-request.answers.items
    (c.loop-request.invariant.0 (c.open_one.ensures.kept kept)).1 c.request-item.result c.loop-request-test.true c.request-item.is (c.in_err-opened.ensures.err kept))

pub returns-in_err-opened-clause-stays : goal.returns-in_err-opened-clause-stays
returns-in_err-opened-clause-stays g c kept gone early revoked =
    let set = g.R.Revocations.revoked_until in
    stays_left gone c.args.requests.now (set c.args.revocations.now) (set c.open_one.new.revocations)
    (left_by_error (set c.args.revocations.now) c.args.requests.now c.loop-request.request-index (set c.loop-request.revocations) (set c.open_one.new.revocations) c.loop-request.answers.items
    (c.loop-request.invariant.0 (c.open_one.ensures.kept kept)).1 c.request-item.result c.loop-request-test.true c.request-item.is (c.in_err-opened.ensures.err kept)) early revoked

pub returns-in_err-push-clause-err : goal.returns-in_err-push-clause-err
returns-in_err-push-clause-err g c kept =
    let set = g.R.Revocations.revoked_until in
    on_err c.from_residual-in_err-push.result
    (left_so_far (set c.args.revocations.now) c.args.requests.now c.loop-request.request-index (set c.loop-request.revocations) (set c.open_one.new.revocations) c.loop-request.answers.items
    (c.loop-request.invariant.0 (c.open_one.ensures.kept kept)).1 c.request-item.result c.loop-request-test.true c.request-item.is (c.in_ok-opened.ensures.forgotten kept))

pub returns-in_err-push-clause-stays : goal.returns-in_err-push-clause-stays
returns-in_err-push-clause-stays g c kept gone early revoked =
    let set = g.R.Revocations.revoked_until in
    stays_left gone c.args.requests.now (set c.args.revocations.now) (set c.open_one.new.revocations)
    (left_so_far (set c.args.revocations.now) c.args.requests.now c.loop-request.request-index (set c.loop-request.revocations) (set c.open_one.new.revocations) c.loop-request.answers.items
    (c.loop-request.invariant.0 (c.open_one.ensures.kept kept)).1 c.request-item.result c.loop-request-test.true c.request-item.is (c.in_ok-opened.ensures.forgotten kept)) early revoked
