use Rattle.std.proofs.Common.{◌≡◌, ◌++◌, [], true, Some, None, cond, rules, sym, ap, ◌∙◌}
use Rattle.std.specs.Prelude.{is_some}
use Rattle.std.proofs.lemmas.List.{append-nil}
use Rattle.cookie_agent.specs.CookiesTxt.{cookie_line, is_carried}
use Rattle.cookie_agent.specs.CookiesTxtCode.{carried_seconds, line_at}
use Rattle.cookie_agent.proofs.CookiesTxtLemmas.{carried_line, carried_seconds-some}
use Rattle.cookie_agent.proofs.saved.cookies_txt.push_carried.Goals as goal

pub returns-in_default-clause-carried : goal.returns-in_default-clause-carried
returns-in_default-clause-carried c =
    let cookie = c.args.cookie.now in
    let none : carried_seconds cookie ≡ None = search rules in
    sym (carried_seconds-some cookie ∙ ap is_some none)

pub returns-in_default-clause-text : goal.returns-in_default-clause-text
returns-in_default-clause-text c =
    let cookie = c.args.cookie.now in
    let text = c.args.text.now.items in
    let none : carried_seconds cookie ≡ None = search rules in
    sym (ap (λ b. text ++ cond b (cookie_line cookie) []) (carried_seconds-some cookie ∙ ap is_some none) ∙ append-nil text)

pub returns-clause-carried : goal.returns-clause-carried
returns-clause-carried c =
    let cookie = c.args.cookie.now in
    let seconds : carried_seconds cookie ≡ Some c.in-Some.seconds = search rules in
    sym (carried_seconds-some cookie ∙ ap is_some seconds)

pub returns-clause-text : goal.returns-clause-text
returns-clause-text c =
    let cookie = c.args.cookie.now in
    let seconds : carried_seconds cookie ≡ Some c.in-Some.seconds = search rules in
    let carries : is_carried cookie ≡ true = carried_seconds-some cookie ∙ ap is_some seconds in
    c.in_ok-push_line.ensures
    ∙ ap (λ t. c.args.text.now.items ++ t)
    (ap (line_at c.in-Some.seconds) c.as_kept.ensures ∙ carried_line cookie c.in-Some.seconds seconds ∙ sym (ap (λ b. cond b (cookie_line cookie) []) carries))
