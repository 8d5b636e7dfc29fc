-- The one that many places later is of the group, or isn't.
use Rattle.std.proofs.Common.{◌≡◌, ◌+◌, not, sym, ap, ◌∙◌, arith}
use Rattle.std.proofs.lemmas.List.{length-map}
use Rattle.cookie_agent.specs.LimitsCode.{comes_before, rank_of, ranks, shares}
use Rattle.cookie_agent.proofs.GroupLemmas.{are_groups}
use Rattle.cookie_agent.proofs.RankLemmas.{stays-far, stays-near}
use Rattle.cookie_agent.proofs.TrimLemmas.{rank_same, rank_there}
use Rattle.cookie_agent.proofs.trim.stays.Goals as goal

pub returns-then-ranked-index : goal.returns-then-ranked-index
returns-then-ranked-index c rank at =
    let group = c.args.group in
    let size = length-map c.args.ranked.now rank_of in
    sym (stays-near (shares group) (comes_before group) (λ r. r.place) (are_groups group) c.args.limit (ranks c.args.ranked.now) c.args.index rank
    c.requires.once c.requires.rises (omega (arith, size, c.requires.below)) at (omega (arith, size, c.requires.below, c.if-ranked-index.true)))

pub returns : goal.returns
returns c rank at =
    let group = c.args.group in
    let xs = c.args.ranked.now in
    let x = c.index-ranked-index.result in
    let y = c.index-ranked-index-2.result in
    let size = length-map xs rank_of in
    let same : rank_of x ≡ rank = rank_same xs c.args.index x rank c.requires.below c.index-ranked-index.is at in
    let there = rank_there xs (c.args.index + c.args.limit) y c.index-ranked-index-2.is in
    ap not (c.shares.ensures ∙ ap (λ r. shares group r (rank_of y)) same)
    ∙ sym (stays-far (shares group) (comes_before group) (λ r. r.place) (are_groups group) c.args.limit (ranks xs) c.args.index rank (rank_of y)
    c.requires.once c.requires.rises (omega (arith, size, c.requires.below)) at (omega (arith, size, c.requires.below, c.if-ranked-index.false)) there)
