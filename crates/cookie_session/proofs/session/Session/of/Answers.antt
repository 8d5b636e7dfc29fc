use Rattle.std.proofs.Common.{rules}
use Rattle.cookie_session.proofs.session.Session.of.Goals as goal

pub invariant_of-result : goal.invariant_of-result
invariant_of-result c = record { long = search rules; bytes = search rules }
