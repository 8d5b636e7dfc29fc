use Rattle.std.proofs.Common.{◌≡◌, None, option_map, ap, subst, ◌∙◌}
use Rattle.std.specs.String.{string_bytes}
use Rattle.cookie.specs.AnswersExactly.{with_value}
use Rattle.cookie.specs.Record.{CookieView}
use Rattle.cookie_session.specs.OpenedText.{text_opened_at}
use Rattle.cookie_session.proofs.KeyRingLemmas.{FindsIn, found_in, opened_cookie, unopened_cookie}
use Rattle.cookie_session.proofs.key_ring.KeyRing.open.Goals as goal

pub returns-in_default : goal.returns-in_default
returns-in_default c =
    let cookie = c.args.cookie.now.fields in
    let ring = c.args.self.now in
    let finds = found_in None ring cookie c.name.result.now c.value.result.now (option_map text_opened_at c.in_ok-opened.field-0) c.name.ensures c.value.ensures c.in_ok-opened.ensures in
    unopened_cookie None ring cookie (subst (λ o. FindsIn None ring cookie (option_map text_opened_at o)) c.in_default.is finds)

pub returns : goal.returns
returns c =
    let cookie = c.args.cookie.now.fields in
    let ring = c.args.self.now in
    let value = string_bytes c.in-Some.opened.value in
    let finds = found_in None ring cookie c.name.result.now c.value.result.now (option_map text_opened_at c.in_ok-opened.field-0) c.name.ensures c.value.ensures c.in_ok-opened.ensures in
    let made : c.set_value_owned.new.self.fields ≡ with_value value cookie =
    c.set_value_owned.ensures.fields ∙ ap (λ (k : CookieView). with_value value k.fields) c.in_ok-cookie.ensures.gives in
    opened_cookie None ring cookie value _ made (subst (λ o. FindsIn None ring cookie (option_map text_opened_at o)) c.in-Some.is finds)
