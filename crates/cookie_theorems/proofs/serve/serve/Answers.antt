use Rattle.std.proofs.Common.{◌+◌, List, Option, [], subst, sym}
use Rattle.std.proofs.lemmas.List.{drop_all, take_all}
use Rattle.cookie_theorems.specs.Acts.{AreActed}
use Rattle.cookie_theorems.specs.declared.event.Event.{Event}
use Rattle.cookie_theorems.specs.declared.handling.Handling.{Handling}
use Rattle.cookie_theorems.proofs.ActLemmas.{Stands, stands_first, stands_login, stands_more, stands_others}
use Rattle.cookie_theorems.proofs.serve.serve.Goals as goal

pub loop-act-init : goal.loop-act-init
loop-act-init g c kept =
    let E = g.row.R-Error.Denot in
    let G = g.row.G-Error.Denot in
    let set = g.R.Revocations.revoked_until in
    let acts = c.args.acts.now in
    let start = c.args.revocations.now in (
      kept,
      λ can. subst (λ (visits : List (Option Handling)). Stands E G set acts start 0 visits start c.new-events.result.items) (sym c.new-visits.ensures.items)
          (subst (λ (events : List Event). Stands E G set acts start 0 [] start events) (sym c.new-events.ensures.items) (stands_first E G set acts start)),
    )

pub loop-act-preserved : goal.loop-act-preserved
loop-act-preserved g c kept =
    let E = g.row.R-Error.Denot in
    let G = g.row.G-Error.Denot in
    let set = g.R.Revocations.revoked_until in
    let acts = c.args.acts.now in
    let start = c.args.revocations.now in
    let done = c.loop-act.act-index in
    let before = c.loop-act.invariant (c.take_act.ensures.kept kept) in (
      before.0,
      λ can. subst (Stands E G set acts start (done + 1) c.take_act.new.visits.items c.take_act.new.revocations) (sym c.in_ok-push.ensures.items)
          (stands_more E G set acts start done c.loop-act.visits.items c.take_act.new.visits.items c.loop-act.revocations c.take_act.new.revocations c.loop-act.events.items (before.1 can)
          c.act-item.result c.in_ok-event.event c.loop-act-test.true c.act-item.is (c.in_ok-event.ensures.acted kept can)),
    )

pub returns-clause-acted : goal.returns-clause-acted
returns-clause-acted g c kept can =
    let E = g.row.R-Error.Denot in
    let G = g.row.G-Error.Denot in
    let set = g.R.Revocations.revoked_until in
    let stands = (c.loop-act.invariant kept).1 can in (
      c.loop-act.visits.items,
      subst (λ acts. AreActed E G set acts ([], c.args.revocations.now) c.loop-act.events.items (c.loop-act.visits.items, c.loop-act.revocations))
          (take_all c.loop-act.act-index c.args.acts.now c.loop-act-test.false) stands.acted,
    )

pub returns-clause-line : goal.returns-clause-line
returns-clause-line g c kept can now timely =
    stands_login g.row.R-Error.Denot g.row.G-Error.Denot g.R.Revocations.revoked_until c.args.acts.now c.args.revocations.now c.loop-act.act-index c.loop-act.visits.items c.loop-act.revocations c.loop-act.events.items
    ((c.loop-act.invariant kept).1 can) (drop_all c.loop-act.act-index c.args.acts.now c.loop-act-test.false) now timely

pub returns-clause-others : goal.returns-clause-others
returns-clause-others g c kept can =
    stands_others g.row.R-Error.Denot g.row.G-Error.Denot g.R.Revocations.revoked_until c.args.acts.now c.args.revocations.now c.loop-act.act-index c.loop-act.visits.items c.loop-act.revocations c.loop-act.events.items
    ((c.loop-act.invariant kept).1 can)
