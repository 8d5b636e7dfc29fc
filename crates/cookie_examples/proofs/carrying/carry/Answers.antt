use Rattle.std.proofs.Common.{◌∙◌, true≢false}
use Rattle.cookie_client.specs.Calls.{IsFitCall}
use Rattle.cookie_examples.proofs.FollowLemmas.{All-accepted_items}
use Rattle.cookie_examples.proofs.carrying.carry.Goals as goal

pub returns-in_ok-exchange-clause-same : goal.returns-in_ok-exchange-clause-same
returns-in_ok-exchange-clause-same c name unforced =
    let e = c.in_ok-exchange.field-0 in
    let carried = c.in_ok-exchange.ensures.carried in
    let fits = All-accepted_items (IsFitCall c.args.now) e.played.outcomes.items c.args.calls.now (c.are_fit.ensures.0 c.if-are_fit.true) in
    carried.next fits name ∙ carried.agrees fits name unforced

pub returns-in_ok-exchange-clause-unfit : goal.returns-in_ok-exchange-clause-unfit
returns-in_ok-exchange-clause-unfit c =
    (λ e fits. true≢false e, λ unfit. absurd (unfit (c.are_fit.ensures.0 c.if-are_fit.true)))
