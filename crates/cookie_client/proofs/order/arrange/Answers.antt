use Rattle.std.proofs.Common.{sym, ◌∙◌}
use Rattle.std.proofs.lemmas.List.Sorted.{IsPermutation-trans}
use Rattle.cookie_client.proofs.order.arrange.Goals as goal

pub loop-preserved : goal.loop-preserved
loop-preserved c = record {
  moved = IsPermutation-trans _ _ _ c.loop.invariant.moved c.swap.ensures.permutation;
  count = c.swap.ensures.len ∙ c.loop.invariant.count;
  same = c.swap-in-loop.ensures.len ∙ c.loop.invariant.same ∙ sym c.swap.ensures.len;
}
