use Rattle.std.proofs.Common.{◌≡◌, ◌+◌, ◌*◌, ◌<◌, ◌||◌, true, not, ap, subst, sym, ◌∙◌, arith}
use Rattle.std.proofs.lemmas.Bool.Decides.{nat_tests}
use Rattle.std.specs.Char.{digit_value}
use Rattle.percent_encoding.specs.Percent.{is_escape}
use Rattle.cookie_core.specs.Escapes.{is_escaped}
use Rattle.cookie_core.proofs.SentNameLemmas.{is_escape-digits}
use Rattle.cookie_core.proofs.sent_name.is_printed.Goals as goal

pub returns-in-Some-Some : goal.returns-in-Some-Some
returns-in-Some-Some c =
    let high = c.args.high in
    let low = c.args.low in
    let first = c.in-Some-Some.ensures.value in
    let second = c.in-Some-Some.ensures'.value in
    let value : c.in-Some-Some.high * 16 + c.in-Some-Some.low ≡ 16 * digit_value high + digit_value low =
    omega (arith, first.1 ∙ ap digit_value c.from.ensures, second.1 ∙ ap digit_value c.from-2.ensures) in
    let escape : is_escape c.args.byte high low ≡ true =
    is_escape-digits c.args.byte high low (grind (arith, nat_tests, c.if-byte-ne37.false))
    (subst (λ d. digit_value d < 16) c.from.ensures first.0) (subst (λ d. digit_value d < 16) c.from-2.ensures second.0) in
    c.is_escaped.ensures ∙ ap is_escaped value ∙ sym (ap (λ b. not b || is_escaped (16 * digit_value high + digit_value low)) escape)
