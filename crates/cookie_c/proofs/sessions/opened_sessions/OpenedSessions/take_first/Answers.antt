use Rattle.std.proofs.Common.{◌≡◌, get_or, rules, subst, sym}
use Rattle.cookie_c.specs.Revoked.{IsTaken}
use Rattle.cookie_c.proofs.RevokedLemmas.{is_taken}
use Rattle.cookie_c.proofs.sessions.opened_sessions.OpenedSessions.take_first.Goals as goal

pub returns-clause-some : goal.returns-clause-some
returns-clause-some c =
    let first = c.swap_remove.result in
    let at : first ≡ get_or c.args.self.now c.in_ok-place.place first = search rules in
    subst (IsTaken c.args.revoked.now c.args.self.now) (sym c.of.ensures)
    (is_taken c.args.revoked.now c.args.self.now c.in_ok-place.place first c.in_ok-place.ensures at)
