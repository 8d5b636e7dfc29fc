use Rattle.std.proofs.Common.{◌≡◌, ◌++◌, [], true, Some, None, cond, rules, sym, ap, ◌∙◌}
use Rattle.std.specs.Prelude.{is_some}
use Rattle.std.proofs.lemmas.List.{append-nil}
use Rattle.cookie_agent.specs.JsonLines.{is_json_carried, json_line}
use Rattle.cookie_agent.specs.JsonLinesCode.{carried_times, line_at}
use Rattle.cookie_agent.proofs.JsonLinesLemmas.{carried_line, carried_times-some}
use Rattle.cookie_agent.proofs.saved.json_lines.push_carried.Goals as goal

pub returns-in_default-clause-carried : goal.returns-in_default-clause-carried
returns-in_default-clause-carried c =
    let cookie = c.args.cookie.now in
    let none : carried_times cookie ≡ None = search rules in
    sym (carried_times-some cookie ∙ ap is_some none)

pub returns-in_default-clause-text : goal.returns-in_default-clause-text
returns-in_default-clause-text c =
    let cookie = c.args.cookie.now in
    let text = c.args.text.now.items in
    let none : carried_times cookie ≡ None = search rules in
    sym (ap (λ b. text ++ cond b (json_line cookie) []) (carried_times-some cookie ∙ ap is_some none) ∙ append-nil text)

pub returns-clause-carried : goal.returns-clause-carried
returns-clause-carried c =
    let cookie = c.args.cookie.now in
    let times : carried_times cookie ≡ Some c.in-Some.times = search rules in
    sym (carried_times-some cookie ∙ ap is_some times)

pub returns-clause-text : goal.returns-clause-text
returns-clause-text c =
    let cookie = c.args.cookie.now in
    let times : carried_times cookie ≡ Some c.in-Some.times = search rules in
    let carries : is_json_carried cookie ≡ true = carried_times-some cookie ∙ ap is_some times in
    c.in_ok-push_line.ensures
    ∙ ap (λ t. c.args.text.now.items ++ t)
    (ap (line_at c.in-Some.times) c.as_kept.ensures ∙ carried_line cookie c.in-Some.times times ∙ sym (ap (λ b. cond b (json_line cookie) []) carries))
