use Rattle.std.proofs.Common.{inl, inr, refl}
use Rattle.cookie_c.proofs.SiteLemmas.{at_second}
use Rattle.cookie_c.proofs.agent.change.trim.Goals as goal

pub returns-in-Ok : goal.returns-in-Ok
returns-in-Ok c = at_second _ _ _ c.in-Some.now c.in-Some.ensures (inl (refl, c.in-Ok.ensures.value))

pub returns-in-Err : goal.returns-in-Err
returns-in-Err c = at_second _ _ _ c.in-Some.now c.in-Some.ensures (inr (refl, c.in-Err.ensures.err))
