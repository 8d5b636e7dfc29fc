use Rattle.std.proofs.Common.{◌||◌, option_copied, sym, ap, ◌∙◌}
use Rattle.std.specs.List.{list_any}
use Rattle.cookie_browser.specs.Bytes.{cut}
use Rattle.cookie_browser.specs.SuffixCode.{texts_of}
use Rattle.cookie_browser.proofs.AnyLemmas.{any-never}
use Rattle.cookie_browser.proofs.CutLemmas.{rest-shorter}
use Rattle.cookie_browser.proofs.DomainLemmas.{rest_in}
use Rattle.cookie_browser.proofs.SuffixLemmas.{any-cut}
use Rattle.cookie_browser.proofs.suffixes.has_domain_of.Goals as goal

pub returns-then-has : goal.returns-then-has
returns-then-has c =
    let texts = texts_of c.args.texts.now.keys in
    let t = c.in-Some.text.now in
    sym (sym (ap (λ o. list_any (rest_in (option_copied o)) texts) (sym c.in-Some.is) ∙ c.loop-rest.invariant)
    ∙ any-cut t texts ∙ ap (λ b. b || list_any (rest_in (cut 46 t).1) texts) (sym c.has.ensures ∙ c.if-has.true))

pub loop-rest-smaller : goal.loop-rest-smaller
loop-rest-smaller c = rest-shorter 46 c.in-Some.text.now _ _ (ap option_copied c.in-Some.is) c.cut.ensures.after

pub loop-rest-preserved : goal.loop-rest-preserved
loop-rest-preserved c =
    let texts = texts_of c.args.texts.now.keys in
    let t = c.in-Some.text.now in
    ap (λ o. list_any (rest_in o) texts) c.cut.ensures.after
    ∙ sym (any-cut t texts ∙ ap (λ b. b || list_any (rest_in (cut 46 t).1) texts) (sym c.has.ensures ∙ c.if-has.false))
    ∙ ap (λ o. list_any (rest_in (option_copied o)) texts) (sym c.in-Some.is) ∙ c.loop-rest.invariant

pub returns : goal.returns
returns c =
    let texts = texts_of c.args.texts.now.keys in
    sym (any-never texts) ∙ ap (λ o. list_any (rest_in (option_copied o)) texts) (sym c.in_default.is) ∙ c.loop-rest.invariant
