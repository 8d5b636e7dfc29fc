use Rattle.cookie_c.specs.SessionCalls.{EndsGiven}
use Rattle.cookie_c.proofs.HandleLemmas.{session_changes}
use Rattle.cookie_c.proofs.sessions.logout.replace_at.Goals as goal

pub returns-in-Session : goal.returns-in-Session
returns-in-Session c =
    session_changes (EndsGiven c.args.time c.args.was_revoked) c.args.session.now (record { handle = c.put.new.self }) _ _ _ _ _
    c.in-Some.ensures.taken c.as_mut.ensures.value c.in-Session.is c.put.ensures c.end_given-answer.ensures
