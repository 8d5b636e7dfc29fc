use Rattle.std.proofs.Common.{rules, ◌≡◌, sym, subst, ◌∙◌}
use Rattle.std.proofs.lemmas.Option.{none-some, same_Some}
use Rattle.cookie_session.specs.Endings.{IsSpent}
use Rattle.cookie_session.specs.Seconds.{second_of}
use Rattle.cookie_session.specs.declared.pass.Pass.{Pass as PassValue}
use Rattle.cookie_session.proofs.save_if_needed.give.Goals as goal
use Rattle.cookie_session.proofs.save_if_needed.give.Goals.{in-Some+in_ok-changed-in-Some+in_ok-add-in-Some+in_ok-spend-in-Some+else-not-branch, in-None+in_ok-add-in-None}

pub returns-in_err-spend-in-Some-clause-unsure : goal.returns-in_err-spend-in-Some-clause-unsure
returns-in_err-spend-in-Some-clause-unsure g c error is =
    (c.in-Some.pass, (c.replaced.ensures c.in-Some.pass).0 c.in-Some.is, c.in_err-spend-in-Some.ensures.unsure)

pub returns-in_err-spend-in-Some-clause-plain : goal.returns-in_err-spend-in-Some-clause-plain
returns-in_err-spend-in-Some-clause-plain g c none = absurd (none c.in-Some.pass ((c.replaced.ensures c.in-Some.pass).0 c.in-Some.is))

pub returns-then-not-branch-clause-gone : goal.returns-then-not-branch-clause-gone
returns-then-not-branch-clause-gone g c kept can is =
    (c.in-Some.pass, (c.replaced.ensures c.in-Some.pass).0 c.in-Some.is, c.in_ok-spend-in-Some.ensures.gone kept can (search rules))

pub returns-then-not-branch-clause-plain : goal.returns-then-not-branch-clause-plain
returns-then-not-branch-clause-plain g c none = absurd (none c.in-Some.pass ((c.replaced.ensures c.in-Some.pass).0 c.in-Some.is))

pub returns-clause-spent : goal.returns-clause-spent
returns-clause-spent g c pass is kept can = elim c.match-replaced.branch [
  | in-Some+in_ok-changed-in-Some+in_ok-add-in-Some+in_ok-spend-in-Some+else-not-branch w ↦
      let old = g.R.Revocations.revoked_until c.args.revocations.now in
      let now = second_of c.args.now in
      let same : w.in-Some.pass ≡ pass = same_Some w.in-Some.pass pass (sym w.in-Some.is ∙ (c.replaced.ensures pass).1 is) in
      let spent = w.in_ok-spend-in-Some.ensures.spent (subst g.R.Revocations.is_intact w.revocations-is kept) can (search rules) in
      subst (λ (p : PassValue). IsSpent now p old (g.R.Revocations.revoked_until c.match-replaced.revocations)) same
      (subst (λ r. IsSpent now w.in-Some.pass old (g.R.Revocations.revoked_until r)) (sym w.revocations-is) spent)
  | in-None+in_ok-add-in-None w ↦ absurd (none-some pass (sym w.in-None.is ∙ (c.replaced.ensures pass).1 is))
]

pub returns-clause-plain : goal.returns-clause-plain
returns-clause-plain g c none = elim c.match-replaced.branch [
  | in-Some+in_ok-changed-in-Some+in_ok-add-in-Some+in_ok-spend-in-Some+else-not-branch w ↦
      absurd (none w.in-Some.pass ((c.replaced.ensures w.in-Some.pass).0 w.in-Some.is))
  | in-None+in_ok-add-in-None w ↦ w.revocations-is
]
