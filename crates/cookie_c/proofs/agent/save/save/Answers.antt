use Rattle.std.proofs.Common.{inl, inr, refl, rules}
use Rattle.cookie_c.specs.SavedAgents.{GivesSaved}
use Rattle.cookie_c.proofs.AgentLemmas.{for_form}
use Rattle.cookie_c.proofs.agent.save.save.Goals as goal

pub returns-in-Ok : goal.returns-in-Ok
returns-in-Ok c =
    let given : GivesSaved c.in-Some.form c.in-Some-time_at.now c.args.store.now c.give.result c.args.out.now c.give.new.out = search rules in
    for_form c.args.form c.args.now _ _ c.in-Some.form c.in-Some-time_at.now c.in-Some.ensures c.in-Some-time_at.ensures (inl given)

pub returns-in-Err : goal.returns-in-Err
returns-in-Err c =
    for_form c.args.form c.args.now _ _ c.in-Some.form c.in-Some-time_at.now c.in-Some.ensures c.in-Some-time_at.ensures (inr (c.none-in-Err.ensures, refl))
