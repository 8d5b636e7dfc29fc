-- The list has the cookies.
use Rattle.std.proofs.Common.{◌≡◌, length, ap, subst, ◌∙◌}
use Rattle.std.proofs.lemmas.Result.{IfOk-weaker}
use Rattle.cookie_browser.specs.Storage.{CookieStore}
use Rattle.cookie_agent.specs.Limits.{IsWithin, trimmed}
use Rattle.cookie_agent.specs.LimitsCode.{IsInOrder, picked}
use Rattle.cookie_agent.specs.SentCode.{targets}
use Rattle.cookie_agent.proofs.trim.places_within.Goals as goal

pub returns-clause-value : goal.returns-clause-value
returns-clause-value c =
    let is : targets c.deref.result.now ≡ c.args.cookies = ap targets c.deref.ensures.value ∙ c.in_ok-cookies.ensures in
    IfOk-weaker c.places_among.result _ _ (λ places h.
    subst (λ (s : CookieStore). picked s places.items ≡ trimmed c.args.suffixes.now c.args.limits c.args.now s) is h) c.places_among.ensures.value

pub returns-clause-in_order : goal.returns-clause-in_order
returns-clause-in_order c =
    let is : targets c.deref.result.now ≡ c.args.cookies = ap targets c.deref.ensures.value ∙ c.in_ok-cookies.ensures in
    IfOk-weaker c.places_among.result _ _ (λ places h. subst (λ (s : CookieStore). IsInOrder (length s) places.items) is h) c.places_among.ensures.in_order

pub returns-clause-within : goal.returns-clause-within
returns-clause-within c =
    let is : targets c.deref.result.now ≡ c.args.cookies = ap targets c.deref.ensures.value ∙ c.in_ok-cookies.ensures in
    IfOk-weaker c.places_among.result _ _ (λ places h.
    subst (λ (s : CookieStore). IsWithin c.args.suffixes.now c.args.limits (picked s places.items)) is h) c.places_among.ensures.within
