-- The keys of the domains below the domain are between its reverse with a dot and that with the next byte.
use Rattle.std.proofs.Common.{◌≡◌, [], ◌∷◌, ◌++◌, ap, inl, sym, subst, ◌∙◌, ⊎_elim, arith}
use Rattle.std.proofs.lemmas.List.Elements.{Contains-append_left}
use Rattle.std.specs.List.{Contains}
use Rattle.cookie_agent.proofs.DomainIndexLemmas.{below-all, forward, numbers_of, rest_more}
use Rattle.cookie_agent.proofs.domain_index.DomainIndex.below.Goals as goal

pub range-numbers-items-requires : goal.range-numbers-items-requires
range-numbers-items-requires c =
    forward c.in_ok-key.key.items c.in_ok-start.start.items c.in_ok-end.end.items
    (c.in_ok-start.ensures ∙ ap (λ l. l ++ 46 ∷ []) c.deref-2.ensures.value) (c.in_ok-end.ensures ∙ ap (λ l. l ++ 47 ∷ []) c.deref-3.ensures.value)

pub loop-numbers-preserved : goal.loop-numbers-preserved
loop-numbers-preserved c =
    let found = c.loop-numbers.found.items in
    let after = c.extend_from_slice-in-loop-numbers.new.self.items in
    let more : after ≡ found ++ c.in-Some.numbers.now.items = c.in_ok-extend_from_slice-2.ensures.items ∙ ap (λ l. found ++ l) c.deref-in-loop-numbers.ensures.value in
    record {
      whole = λ n at. subst (λ l. Contains l n) (sym more) (Contains-append_left found c.in-Some.numbers.now.items n (c.loop-numbers.invariant.whole n at));
      rest = λ q n here. ⊎_elim
          (λ before. inl (subst (λ l. Contains l n) (sym more) (Contains-append_left found c.in-Some.numbers.now.items n before)))
          (rest_more c.loop-numbers.numbers-iterator c.next.new.self (c.in-Some.field-0-0.now, c.in-Some.numbers.now) found after c.in-Some.ensures.steps more q n)
          (c.loop-numbers.invariant.rest q n here);
    }

pub returns : goal.returns
returns c =
    below-all c.args.self.now c.in_ok-key.key.items c.args.domain.now c.in_ok-start.start c.in_ok-end.end c.loop-numbers.found.items c.in_ok-key.ensures
    (c.in_ok-start.ensures ∙ ap (λ l. l ++ 46 ∷ []) c.deref-2.ensures.value) (c.in_ok-end.ensures ∙ ap (λ l. l ++ 47 ∷ []) c.deref-3.ensures.value)
    c.loop-numbers.invariant.whole
    (λ q n here. ⊎_elim (λ found. found) (λ come. let none = subst (λ es. Contains (numbers_of q es) n) c.in-None.ensures.steps.0 come in absurd (omega (arith, none.1)))
    (c.loop-numbers.invariant.rest q n (subst (λ es. Contains (numbers_of q es) n) (sym (c.into_iter-numbers-iterator.ensures.into_iter_gives ∙ c.range-numbers-items.ensures.between tt)) here)))
