use Rattle.std.proofs.Common.{option_copied, find, unwrap_or, sym, ap, ◌∙◌}
use Rattle.cookie_browser.specs.Suffixes.{is_registrable}
use Rattle.cookie_browser.proofs.CutLemmas.{rest-shorter}
use Rattle.cookie_browser.proofs.EndingLemmas.{endings_left, find-endings}
use Rattle.cookie_browser.proofs.suffixes.Suffixes.registrable.Goals as goal

pub loop-rest-smaller : goal.loop-rest-smaller
loop-rest-smaller c = rest-shorter 46 c.in-Some.ending.now _ _ (ap option_copied c.in-Some.is) c.cut.ensures.after

pub loop-rest-preserved : goal.loop-rest-preserved
loop-rest-preserved c =
    let test = is_registrable c.args.self.now in
    let t = c.in-Some.ending.now in
    ap (λ o. find test (endings_left o)) c.cut.ensures.after
    ∙ sym (find-endings test t (sym c.is_registrable.ensures ∙ c.if-is_registrable.false))
    ∙ ap (λ o. find test (endings_left (option_copied o))) (sym c.in-Some.is) ∙ c.loop-rest.invariant

pub returns-then-is_registrable : goal.returns-then-is_registrable
returns-then-is_registrable c =
    let test = is_registrable c.args.self.now in
    let t = c.in-Some.ending.now in
    ap (λ o. unwrap_or o c.args.domain.now)
    (sym (find-endings test t (sym c.is_registrable.ensures ∙ c.if-is_registrable.true))
    ∙ ap (λ o. find test (endings_left (option_copied o))) (sym c.in-Some.is) ∙ c.loop-rest.invariant)

pub returns : goal.returns
returns c =
    let test = is_registrable c.args.self.now in
    ap (λ o. unwrap_or o c.args.domain.now)
    (ap (λ o. find test (endings_left (option_copied o))) (sym c.in_default.is) ∙ c.loop-rest.invariant)
