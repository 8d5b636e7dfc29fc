use Rattle.std.proofs.Common.{rules, tests, ap, ◌∙◌}
use Rattle.std.proofs.lemmas.Iterator.Adapters.{YieldsList-from_skip}
use Rattle.std.proofs.lemmas.Iterator.Search.{any_from_yields_List}
use Rattle.std.proofs.lemmas.Iterator.Splits.{YieldsList-from_slice_split}
use Rattle.std.specs.Slice.Iter.{split_rest, split_done, split_callee}
use Rattle.cookie_browser.specs.Beyond.{is_partition_mark}
use Rattle.cookie_browser.proofs.beyond.is_partitioned.Goals as goal

pub returns : goal.returns
returns c =
    any_from_yields_List is_partition_mark _ _ _ c.any.ensures.ran
    (YieldsList-from_skip 1
    (YieldsList-from_slice_split _ _ c.args.text.now
    (ap split_rest c.skip.ensures.source ∙ c.split.ensures.rest)
    (ap split_done c.skip.ensures.source ∙ c.split.ensures.done)
    (ap split_callee c.skip.ensures.source ∙ c.split.ensures.closure)
    (λ x r q k. search (rules, tests)))
    c.skip.ensures.count)
    (λ x b q k. search (rules, tests))
