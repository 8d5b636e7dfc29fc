use Rattle.std.proofs.Common.{◌≡◌, None, rules}
use Rattle.cookie_c.specs.OpenedSessions.{session_of}
use Rattle.cookie_c.specs.SessionCalls.{HasGeneration}
use Rattle.cookie_c.specs.declared.status.Status.TheVariants as status
use Rattle.cookie_c.proofs.HandleLemmas.{lacking, session_changed}
use Rattle.cookie_c.proofs.sessions.generation.cookie_session_set_generation.Goals as goal

pub returns-in-Session : goal.returns-in-Session
returns-in-Session c =
    session_changed (HasGeneration c.args.generation) _ c.args.session.now (record { handle = c.put.new.self }) _ _ _ _ _ c.in-Some.ensures.taken c.as_mut.ensures.value c.in-Session.is c.put.ensures
    c.code-answer.ensures c.set.ensures

pub returns-in_default : goal.returns-in_default
returns-in_default c =
    let none : session_of c.args.session.now ≡ None = search rules in
    let left : session_of (record { handle = c.put-in_default.new.self }) ≡ None = search rules in
    lacking status.NoSession (HasGeneration c.args.generation) _ _ _ none left c.code.ensures

pub returns-in-None : goal.returns-in-None
returns-in-None c =
    let none : session_of c.args.session.now ≡ None = search rules in
    let left : session_of (record { handle = c.take.new.self }) ≡ None = search rules in
    lacking status.NoSession (HasGeneration c.args.generation) _ _ _ none left c.code-in-None.ensures
