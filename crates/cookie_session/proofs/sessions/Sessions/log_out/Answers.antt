use Rattle.std.proofs.Common.{rules}
use Rattle.cookie_session.proofs.sessions.Sessions.log_out.Goals as goal

pub returns-in_err-spend-clause-unsure : goal.returns-in_err-spend-clause-unsure
returns-in_err-spend-clause-unsure g c error is = (c.in-Some.given, search rules, c.in_err-spend.ensures.unsure)
