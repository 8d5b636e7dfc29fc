use Rattle.std.proofs.Common.{sym, ◌∙◌}
use Rattle.cookie_session.proofs.RotateLemmas.{retired}
use Rattle.cookie_session.proofs.key_ring.KeyRing.retire.Goals as goal

pub returns-clause-leaves : goal.returns-clause-leaves
returns-clause-leaves c = retired c.args.self.now c.pop.new.self.items c.pop.result (sym c.self.view_is ∙ c.pop.ensures.items)
