use Rattle.std.proofs.Common.{inl, inr, refl, rules}
use Rattle.cookie_c.proofs.AgentLemmas.{for_form}
use Rattle.cookie_c.proofs.agent.load.load.Goals as goal

pub returns-in-Ok-load_within : goal.returns-in-Ok-load_within
returns-in-Ok-load_within c =
    for_form c.args.form c.args.now _ _ c.in-Some.form c.in-Some-time_at.now c.in-Some.ensures c.in-Some-time_at.ensures (inl (search rules))

pub returns-in_default-read : goal.returns-in_default-read
returns-in_default-read c =
    for_form c.args.form c.args.now _ _ c.in-Some.form c.in-Some-time_at.now c.in-Some.ensures c.in-Some-time_at.ensures (inr ((c.none-in_default-read.ensures, refl), refl))

pub returns : goal.returns
returns c =
    for_form c.args.form c.args.now _ _ c.in-Some.form c.in-Some-time_at.now c.in-Some.ensures c.in-Some-time_at.ensures (inr ((c.none-in-Err.ensures, refl), search rules))
