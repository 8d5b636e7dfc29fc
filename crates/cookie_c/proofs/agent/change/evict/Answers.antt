use Rattle.std.proofs.Common.{refl}
use Rattle.cookie_c.proofs.SiteLemmas.{at_second}
use Rattle.cookie_c.proofs.agent.change.evict.Goals as goal

pub returns : goal.returns
returns c = at_second _ _ _ c.in-Some.now c.in-Some.ensures (refl, c.evict.ensures)
