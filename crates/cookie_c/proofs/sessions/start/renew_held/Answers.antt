use Rattle.std.proofs.Common.{◌≡◌}
use Rattle.cookie_c.specs.SessionCalls.{renewed_session}
use Rattle.cookie_c.specs.declared.status.Status.TheVariants as status
use Rattle.cookie_c.proofs.HandleLemmas.{session_changes}
use Rattle.cookie_c.proofs.sessions.start.renew_held.Goals as goal

pub returns-in-Session : goal.returns-in-Session
returns-in-Session c =
    session_changes (λ answer old new. (answer ≡ status.Done) × (new ≡ renewed_session c.args.sessions.now c.args.id.bytes.now c.args.time old))
    c.args.session.now (record { handle = c.put.new.self }) _ _ _ _ _ c.in-Some.ensures.taken c.as_mut.ensures.value c.in-Session.is c.put.ensures
    (c.renew_session-answer.ensures.done, c.renew_session-answer.ensures.renewed)
