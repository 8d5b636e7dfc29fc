-- The sort only moves, and its order is that of the ranks.
use Rattle.std.proofs.Common.{◌≡◌, rules, ap}
use Rattle.std.proofs.lemmas.List.MinMax.{ranks_by}
use Rattle.std.proofs.lemmas.Fn.{always_returns_same}
use Rattle.std.proofs.lemmas.List.Sorted.{IsPermutation-map}
use Rattle.std.specs.Ordering.{is_lt}
use Rattle.cookie_agent.specs.LimitsCode.{comes_before, rank_cmp, rank_of}
use Rattle.cookie_agent.proofs.GroupLemmas.{rank_total}
use Rattle.cookie_agent.proofs.RankLemmas.{rises-map, rises-sorted}
use Rattle.cookie_agent.proofs.trim.sorted.Goals as goal

pub returns-clause-moved : goal.returns-clause-moved
returns-clause-moved c = IsPermutation-map rank_of _ _ c.sort_unstable_by.ensures.permutation

pub returns-clause-rises : goal.returns-clause-rises
returns-clause-rises c =
    let group = c.args.group in
    let order = ranks_by (rank_total group) rank_of in
    rises-map rank_of (comes_before group) _
    (rises-sorted (λ a b. comes_before group (rank_of a) (rank_of b)) order _
    (c.sort_unstable_by.ensures.sorted (λ a b. comes_before group (rank_of a) (rank_of b)) order (always_returns_same _ _ _ (λ a r q h.
    let found : r ≡ rank_cmp group (rank_of a.0.now) (rank_of a.1.0.now) = search rules in (ap is_lt found, search rules)))))
