-- The sorted sums don't fall, and no text is there more often than its sum.
use Rattle.std.proofs.Common.{ℕ, ◌<◌, ◌≤◌, get_or, length, subst, sym}
use Rattle.std.proofs.lemmas.List.Sorted.{IsNonDecreasingBy-from_sort}
use Rattle.std.specs.List.Sorted.{IsPermutation}
use Rattle.cookie_agent.specs.LimitsCode.{ranks}
use Rattle.cookie_agent.proofs.SpreadLemmas.{few-texts}
use Rattle.cookie_agent.proofs.trim.are_few.Goals as goal

pub is_spread-requires : goal.is_spread-requires
is_spread-requires c =
    subst (λ l. (i j : ℕ) → i ≤ j → j < length l → get_or l i 0 ≤ get_or l j 0) (sym c.deref.ensures.value)
    (λ i j le below. IsNonDecreasingBy-from_sort (λ x. x) c.sort_unstable.new.self.items c.sort_unstable.ensures.sorted i j 0 le below)

pub returns : goal.returns
returns c few text =
    few-texts c.args.limit (ranks c.args.ranked.now) c.in_ok-sums.sums.items c.deref.result.now c.in_ok-sums.ensures
    (subst (λ l. IsPermutation c.in_ok-sums.sums.items l) (sym c.deref.ensures.value) c.sort_unstable.ensures.permutation)
    (c.is_spread.ensures few) text
