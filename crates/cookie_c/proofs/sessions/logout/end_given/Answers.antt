use Rattle.cookie_c.proofs.LogoutLemmas.{given_ended, given_gone, given_nobody}
use Rattle.std.proofs.Common.{refl}
use Rattle.cookie_c.proofs.sessions.logout.end_given.Goals as goal

pub returns-in-Ended : goal.returns-in-Ended
returns-in-Ended c =
    let is = c.in-Ended.ensures in
    given_ended c.args.time c.args.was_revoked c.args.visit.now _ is.nobody is.ended (is.taken refl)

pub returns-in-Nobody : goal.returns-in-Nobody
returns-in-Nobody c =
    let is = c.in-Nobody.ensures in
    given_nobody c.args.time c.args.was_revoked c.args.visit.now _ is.nobody (is.stays (λ e. cc))

pub returns-in-Gone : goal.returns-in-Gone
returns-in-Gone c =
    let is = c.in-Gone.ensures in
    given_gone c.args.time c.args.was_revoked c.args.visit.now _ is.nobody is.ended (is.stays (λ e. cc))
