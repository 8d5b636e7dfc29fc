use Rattle.std.proofs.Common.{All, ◌↔◌, rules, refl, sym, subst}
use Rattle.std.proofs.lemmas.List.Elements.{All-nil}
use Rattle.cookie.specs.AttributeValues.{AllFitFields, FitsField}
use Rattle.cookie.proofs.AttributeValueLemmas.{AllFitFields-next, AllFitFields-walk}
use Rattle.cookie.proofs.jar.CookieJar.fits_fields.Goals as goal

pub loop-cookie-init : goal.loop-cookie-init
loop-cookie-init c =
    let delta = c.args.self.now.delta in
    subst (λ cookies. All FitsField cookies ↔ AllFitFields delta) (sym c.into_iter-cookie-iterator.ensures.into_iter_gives)
    (AllFitFields-walk delta c.delta-cookie-items.result c.delta-cookie-items.ensures.walks)

pub loop-cookie-preserved : goal.loop-cookie-preserved
loop-cookie-preserved c =
    let delta = c.args.self.now.delta in
    let cookie = c.in-Some.cookie.now.fields in
    let fits : FitsField cookie = search rules in
    AllFitFields-next delta cookie c.next.new.self fits
    (subst (λ cookies. All FitsField cookies ↔ AllFitFields delta) c.in-Some.ensures.steps c.loop-cookie.invariant)

pub returns : goal.returns
returns c = (λ _. c.loop-cookie.invariant.0 (subst (All FitsField) (sym c.in-None.ensures.steps.0) (All-nil FitsField)), λ _. refl)
