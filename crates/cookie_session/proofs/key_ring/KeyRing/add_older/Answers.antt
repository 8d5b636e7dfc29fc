use Rattle.std.proofs.Common.{◌∷◌, [], ◌++◌, ap, ◌∙◌}
use Rattle.cookie_session.proofs.RotateLemmas.{left_retired}
use Rattle.cookie_session.proofs.key_ring.KeyRing.add_older.Goals as goal

pub returns-clause-keeps : goal.returns-clause-keeps
returns-clause-keeps c = left_retired c.args.key c.push.new.self.items c.args.self.now (c.in_ok-push.ensures.items ∙ ap (λ r. r ++ c.args.key ∷ []) c.self.view_is)
