use Rattle.std.proofs.Common.{nat_lt, rules}
use Rattle.std.proofs.lemmas.Map.Made.{filter_same_pairs}
use Rattle.session_revocations.proofs.MemoryLemmas.{by_id-after}
use Rattle.session_revocations.proofs.memory_revocations.MemoryRevocations.forget.Goals as goal

pub returns : goal.returns
returns c id =
    rw (← c.self.view_is) (by_id-after c.self.inside.untils c.retain.new.self c.args.now c.retain.ensures.was_ordered
    (filter_same_pairs _ (λ e. nat_lt c.args.now e.1) _ (λ k v b w f t. search rules) _ _ c.retain.ensures.filtered) id)
