use Rattle.cookie_c.proofs.SiteLemmas.{at_second}
use Rattle.cookie_c.proofs.sessions.need.must_save_at.Goals as goal

pub returns-in-Some-clause-told : goal.returns-in-Some-clause-told
returns-in-Some-clause-told c = at_second _ _ _ c.in-Some.time c.in-Some.ensures (c.sessions.result, c.sessions.ensures, c.must_save_held.ensures.told)
