use Rattle.std.proofs.Common.{subst}
use Rattle.cookie_c.specs.OpenedSessions.{opened_of, session_of}
use Rattle.cookie_c.specs.Revoked.{Takes}
use Rattle.cookie_c.proofs.sessions.take.cookie_opened_take.Goals as goal

pub returns-clause-takes : goal.returns-clause-takes
returns-clause-takes c whole = (
  c.take.result,
  c.code-2.ensures,
  subst (λ ids. Takes ids c.take.result (opened_of c.args.opened.now) (opened_of c.take.new.opened) (session_of c.args.session.now) (session_of c.take.new.session))
      c.as_chunks.ensures.front c.take.ensures,
)
