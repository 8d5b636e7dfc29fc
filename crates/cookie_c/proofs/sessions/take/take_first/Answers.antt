use Rattle.std.proofs.Common.{Some, ap}
use Rattle.cookie_c.specs.Handles.{opened_in}
use Rattle.cookie_c.specs.declared.handle.content.Content.{Content}
use Rattle.cookie_c.proofs.RevokedLemmas.{none_left}
use Rattle.cookie_c.proofs.sessions.take.take_first.Goals as goal

pub returns-in-Opened-clause-none : goal.returns-in-Opened-clause-none
returns-in-Opened-clause-none c =
    none_left c.take_first.result c.args.revoked.now c.in-Opened.all (opened_in (Some c.args.content.now)) (ap (λ (seen : Content). opened_in (Some seen)) c.in-Opened.is) c.take_first.ensures.none
