use Rattle.std.proofs.Common.{ap, ◌∙◌, [], append-nil, drop_of_length-le, subst, sym}
use Rattle.std.specs.List.{AllZip}
use Rattle.cookie.specs.History.{after_all, originals_of}
use Rattle.cookie_client.specs.Calls.{IsOutcome, changes_of}
use Rattle.cookie_client.specs.Originals.{holding}
use Rattle.cookie_client.proofs.originals.replay_told.Goals as goal

pub returns-clause-jar : goal.returns-clause-jar
returns-clause-jar c = c.loop-call.invariant.jar [] ∙ ap (λ o. after_all (changes_of o c.args.calls.now) c.args.jar.now) (append-nil c.loop-call.outcomes.items)

pub returns-clause-client : goal.returns-clause-client
returns-clause-client c =
    c.loop-call.invariant.client [] ∙ ap (λ o. holding (originals_of (changes_of o c.args.calls.now)) c.args.client.now) (append-nil c.loop-call.outcomes.items)

pub returns-clause-outcomes : goal.returns-clause-outcomes
returns-clause-outcomes c =
    subst (AllZip IsOutcome c.args.calls.now) (append-nil c.loop-call.outcomes.items)
    (c.loop-call.invariant.told [] (subst (λ left. AllZip IsOutcome left []) (sym (drop_of_length-le c.args.calls.now c.loop-call-test.false)) tt))
