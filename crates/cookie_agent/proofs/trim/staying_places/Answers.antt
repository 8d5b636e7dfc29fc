-- One more place, if its cookie stays.
use Rattle.std.proofs.Common.{◌≡◌, ◌<◌, [], length, get_or, true, false, sym, ◌∙◌, arith}
use Rattle.std.proofs.lemmas.List.{get_or_default, length-map}
use Rattle.cookie_agent.specs.LimitsCode.{Rank, rank_at, rank_of, ranks, stays}
use Rattle.cookie_agent.proofs.TrimLemmas.{kept_more, rank_there}
use Rattle.cookie_agent.proofs.trim.staying_places.Goals as goal
use Rattle.cookie_agent.proofs.trim.staying_places.Goals.{then-stays+in_ok-push, else-stays}

pub loop-index-preserved : goal.loop-index-preserved
loop-index-preserved c =
    let items = ranks c.args.ranked.now in
    let st = stays c.args.group c.args.limit items in
    let i = c.loop-index.index in
    let size = length-map c.args.ranked.now rank_of in
    let below : i < length items = omega (arith, size, c.loop-index-test.true) in
    elim c.if-stays.branch [
      | then-stays+in_ok-push w ↦
          let x = get_or c.args.ranked.now i w.index-ranked-index.result in
          let here : rank_of x ≡ get_or items i (rank_of x)
          = rank_there c.args.ranked.now i x (get_or_default c.args.ranked.now i w.index-ranked-index.result x c.loop-index-test.true) in
          rw (w.kept-is, w.in_ok-push.ensures.items) (kept_more st items i (rank_of x) c.loop-index.kept.items below here c.loop-index.invariant true (sym (c.stays.ensures (rank_of x) here) ∙ w.if-stays.true))
      | else-stays w ↦
          let r : Rank = get_or items i (rank_at (λ c. []) [] 0) in
          let here : r ≡ get_or items i r = get_or_default items i (rank_at (λ c. []) [] 0) r below in
          rw w.kept-is (kept_more st items i r c.loop-index.kept.items below here c.loop-index.invariant false (sym (c.stays.ensures r here) ∙ w.if-stays.false))
    ]
