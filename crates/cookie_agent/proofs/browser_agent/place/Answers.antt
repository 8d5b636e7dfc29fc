-- The place that was found, or the end, is where `placed` puts it.
use Rattle.std.proofs.Common.{◌≡◌, ◌<◌, ◌++◌, ◌∷◌, [], length, true, get_or, sym, ap, ◌∙◌, arith, below_more}
use Rattle.std.proofs.Math.ListN.{set}
use Rattle.cookie_agent.specs.Beyond.{DatedStore, DatedView, is_same_dated}
use Rattle.cookie_agent.proofs.BeyondLemmas.{placed_at, placed_last, read_at}
use Rattle.cookie_agent.proofs.browser_agent.place.Goals as goal

pub returns-then-is_same-clause-ok : goal.returns-then-is_same-clause-ok
returns-then-is_same-clause-ok c =
    let i = c.loop-index.index in
    let x = c.args.cookie in
    let before : DatedStore = c.args.cookies.now.items in
    let same = c.loop-index.invariant.same in
    let below : i < length before = omega arith in
    let old : DatedView = c.index.result.now in
    let again : DatedView = c.index-then-is_same.result.now in
    let found : old ≡ get_or before i old = rw same at c.index.ensures in
    let found_again : again ≡ get_or before i again = rw same at c.index-then-is_same.ensures in
    let here : is_same_dated (get_or before i x) x ≡ true = ap (λ o. is_same_dated o x) (read_at before i old found below x) ∙ sym c.if-is_same.ensures in
    let new : c.created_as-cookie.result ≡ record x { created = (get_or before i x).created }
    = c.created_as-cookie.ensures ∙ ap (λ (o : DatedView). record x { created = o.created }) (sym (read_at before i again found_again below x)) in
    rw same (ap (λ y. set before i y) new ∙ placed_at x x before i below c.loop-index.invariant.before here)

pub loop-index-preserved : goal.loop-index-preserved
loop-index-preserved c =
    let i = c.loop-index.index in
    let x = c.args.cookie in
    let before : DatedStore = c.args.cookies.now.items in
    let same = c.loop-index.invariant.same in
    let below : i < length before = omega arith in
    let old : DatedView = c.index.result.now in
    let found : old ≡ get_or before i old = rw same at c.index.ensures in
    record {
      same = same;
      before = below_more _ _ c.loop-index.invariant.before (ap (λ o. is_same_dated o x) (read_at before i old found below x) ∙ sym c.if-is_same.ensures);
    }

pub returns-clause-ok : goal.returns-clause-ok
returns-clause-ok c =
    let before : DatedStore = c.args.cookies.now.items in
    let items : c.push.new.self.items ≡ before ++ c.args.cookie ∷ [] = rw c.loop-index.invariant.same at c.in_ok-push.ensures.items in
    items ∙ placed_last c.args.cookie c.args.cookie before (λ k lt. c.loop-index.invariant.before k (omega arith))
