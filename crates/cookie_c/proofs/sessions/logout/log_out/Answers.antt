use Rattle.cookie_c.proofs.SiteLemmas.{at_second}
use Rattle.cookie_c.proofs.sessions.logout.log_out.Goals as goal

pub returns-in-Some : goal.returns-in-Some
returns-in-Some c = at_second _ _ _ c.in-Some.time c.in-Some.ensures c.log_out_at.ensures
