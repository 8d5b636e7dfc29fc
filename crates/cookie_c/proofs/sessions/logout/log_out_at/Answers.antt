use Rattle.std.proofs.Common.{◌≡◌, None, rules}
use Rattle.cookie_c.specs.OpenedSessions.{session_of}
use Rattle.cookie_c.proofs.LogoutLemmas.{logs_none_out, logs_out}
use Rattle.cookie_c.proofs.sessions.logout.log_out_at.Goals as goal

pub returns-in-Done : goal.returns-in-Done
returns-in-Done c =
    let none : session_of (record { handle = c.free.new.self }) ≡ None = search rules in
    logs_out c.args.time c.args.was_revoked (session_of c.args.session.now) (session_of c.replace_at.new.session) _ c.in-Done.ensures none

pub returns-in_default : goal.returns-in_default
returns-in_default c =
    logs_none_out c.args.time c.args.was_revoked c.replace_at.result (session_of c.args.session.now) (session_of c.replace_at.new.session) c.in_default.not-Done c.replace_at.ensures
