use Rattle.cookie_c.proofs.SiteLemmas.{at_second}
use Rattle.cookie_c.proofs.report.report_by.Goals as goal

pub returns-in-Some : goal.returns-in-Some
returns-in-Some c = at_second _ _ _ c.in-Some.now c.in-Some.ensures c.report_at.ensures
