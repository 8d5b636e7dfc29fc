-- The others stay, and the cookie comes last.
use Rattle.std.proofs.Common.{◌++◌, ◌∷◌, [], not, filter, rules, ap, ◌∙◌}
use Rattle.std.proofs.lemmas.Fn.{filter_same}
use Rattle.cookie_agent.specs.Beyond.{DatedView, is_same_dated}
use Rattle.cookie_agent.proofs.browser_agent.renew.Goals as goal

pub returns-clause-ok : goal.returns-clause-ok
returns-clause-ok c =
    c.in_ok-push.ensures.items
    ∙ ap (λ l. l ++ c.args.cookie ∷ [])
    (filter_same _ (λ (d : DatedView). not (is_same_dated d c.args.cookie)) _ (λ x b f h. search rules) _ _ c.retain.ensures.filtered
    ∙ ap (filter (λ (d : DatedView). not (is_same_dated d c.args.cookie))) c.in_ok-reserve.ensures.items)
