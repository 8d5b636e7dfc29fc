-- The domain's reverse begins with that of each domain above it, and a dot.
use Rattle.std.proofs.Common.{◌≡◌, ◌<◌, List, ℕ, length, get_or, take, sym, ap, subst, ◌∙◌, ⊎_elim, arith}
use Rattle.std.proofs.lemmas.Bool.{cases_lt}
use Rattle.std.proofs.lemmas.List.{get_or_default}
use Rattle.std.proofs.lemmas.List.Elements.{Contains-append_left, Contains-append_right}
use Rattle.std.specs.List.{Contains}
use Rattle.cookie_agent.specs.IndexCode.{IsNumberAt}
use Rattle.cookie_agent.proofs.DomainIndexLemmas.{above-all}
use Rattle.cookie_agent.proofs.domain_index.DomainIndex.above.Goals as goal
use Rattle.cookie_agent.proofs.domain_index.DomainIndex.above.Goals.{then-index-eq46+in_ok-extend_from_slice-2, else-index-eq46}

pub loop-end-preserved : goal.loop-end-preserved
loop-end-preserved c =
    let key = c.in_ok-key.key.items in
    let end = c.loop-end.end in
    let found = c.loop-end.found.items in
    let so = c.loop-end.invariant in
    elim c.if-index-eq46.branch [
      | then-index-eq46+in_ok-extend_from_slice-2 w ↦ rw (w.found-is, w.in_ok-extend_from_slice-2.ensures.items) (record {
        whole = λ n at. Contains-append_left found w.at-then-index-eq46.result.now n (so.whole n at);
        dots = λ k lt dot n at. ⊎_elim (λ before. Contains-append_left found w.at-then-index-eq46.result.now n (so.dots k before dot n at))
            (λ from. let same : k ≡ end = omega arith in
            Contains-append_right found w.at-then-index-eq46.result.now n (subst (λ l. Contains l n) (sym w.at-then-index-eq46.ensures)
            (subst (λ l. IsNumberAt c.args.self.now l n) (ap (λ j. take j key) same ∙ ap (λ (l : List ℕ). take end l) (sym w.deref-then-index-eq46.ensures.value)) at))) (cases_lt k end);
      })
      | else-index-eq46 w ↦ rw w.found-is (record {
        whole = so.whole;
        dots = λ k lt dot n at. ⊎_elim (λ before. so.dots k before dot n at) (λ from. let same : k ≡ end = omega arith in let short : end < length key = omega arith in
            absurd (w.if-index-eq46.false (c.index.ensures ∙ get_or_default key end c.index.result.now 0 short ∙ ap (λ j. get_or key j 0) (sym same) ∙ dot))) (cases_lt k end);
      })
    ]

pub returns : goal.returns
returns c other n inside listed =
    above-all c.args.self.now c.in_ok-key.key.items c.args.domain.now c.loop-end.found.items c.in_ok-key.ensures c.loop-end.invariant.whole
    (λ k lt dot m at. c.loop-end.invariant.dots k (omega arith) dot m at) other n inside listed
