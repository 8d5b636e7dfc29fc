use Rattle.cookie_client.specs.Calls.{IsFitCall}
use Rattle.cookie_examples.proofs.FollowLemmas.{All-accepted_items}
use Rattle.cookie_examples.proofs.following.follow.Goals as goal

pub returns-in_ok-mirror-clause-agrees : goal.returns-in_ok-mirror-clause-agrees
returns-in_ok-mirror-clause-agrees c =
    let p = c.in_ok-mirror.field-0 in
    c.in_ok-mirror.ensures.agrees (All-accepted_items (IsFitCall c.args.now) p.outcomes.items c.args.calls.now (c.are_fit.ensures.0 c.if-are_fit.true))
