use Rattle.std.proofs.Common.{rules}
use Rattle.cookie_c.specs.Handles.{IsPut}
use Rattle.cookie_c.specs.OpenedSessions.{session_of}
use Rattle.cookie_c.specs.SessionCalls.{new_session}
use Rattle.cookie_c.proofs.SiteLemmas.{at_second}
use Rattle.cookie_c.proofs.sessions.start.start_at.Goals as goal

pub returns : goal.returns
returns c =
    let put : IsPut (new_session c.sessions.result c.args.id.bytes.now c.in-Some.time) c.set.result (session_of c.args.session.now) (session_of (record { handle = c.set.new.self })) = search rules in
    at_second _ _ _ c.in-Some.time c.in-Some.ensures (c.sessions.result, c.sessions.ensures, put)
