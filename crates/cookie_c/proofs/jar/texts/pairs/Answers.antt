use Rattle.std.proofs.Common.{List, ℕ, [], fold, map, ap, sym, subst, ◌∙◌}
use Rattle.cookie.specs.Record.{Record}
use Rattle.cookie_c.specs.Jars.{HasPairs}
use Rattle.cookie_c.specs.TextLists.{with_listed}
use Rattle.cookie_c.proofs.jar.texts.pairs.Goals as goal

-- the list with these cookies
abbrev more : List ℕ → List Record → List ℕ
more list cookies = fold with_listed list (map (λ (cookie : Record). (cookie.name, cookie.value)) cookies)

pub loop-cookie-init : goal.loop-cookie-init
loop-cookie-init c = record {
  cookies = c.iter-cookie-items.result;
  are = c.iter-cookie-items.ensures.walks;
  listed = ap (λ list. more list c.into_iter-cookie-iterator.result) c.new-list.ensures.items ∙ ap (more []) c.into_iter-cookie-iterator.ensures.into_iter_gives;
}

pub loop-cookie-preserved : goal.loop-cookie-preserved
loop-cookie-preserved c =
    let had = c.loop-cookie.list.items in
    let added = c.in_ok-push_listed.ensures ∙ ap (λ (n : List ℕ). with_listed had (n, c.value.result.now)) c.name.ensures ∙ ap (λ (v : List ℕ). with_listed had (c.in-Some.cookie.now.fields.name, v)) c.value.ensures in
    let moved = ap (λ list. more list c.next.new.self) added ∙ ap (more had) (sym c.in-Some.ensures.steps) in
    subst (HasPairs c.args.jar.now) (sym moved) c.loop-cookie.invariant

pub returns : goal.returns
returns c = subst (λ cookies. HasPairs c.args.jar.now (more c.loop-cookie.list.items cookies)) c.in-None.ensures.steps.0 c.loop-cookie.invariant
