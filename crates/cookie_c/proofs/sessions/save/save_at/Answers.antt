use Rattle.cookie_c.proofs.SiteLemmas.{at_second}
use Rattle.cookie_c.proofs.sessions.save.save_at.Goals as goal

pub returns-in-Some : goal.returns-in-Some
returns-in-Some c = at_second _ _ _ c.in-Some.time c.in-Some.ensures (c.sessions.result, c.sessions.ensures, c.save_held.ensures)
