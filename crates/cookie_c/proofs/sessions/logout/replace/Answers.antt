use Rattle.cookie_c.proofs.SiteLemmas.{at_second}
use Rattle.cookie_c.proofs.sessions.logout.replace.Goals as goal

pub returns-in-Some : goal.returns-in-Some
returns-in-Some c = at_second _ _ _ c.in-Some.time c.in-Some.ensures c.replace_at.ensures
