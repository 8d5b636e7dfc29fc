use Rattle.std.proofs.Common.{◌≡◌, ap, eqb, sym, true, ◌∙◌}
use Rattle.std.specs.List.{starts_with}
use Rattle.std.proofs.lemmas.List.{take_rest}
use Rattle.std.proofs.lemmas.Result.{IfOk-weaker}
use Rattle.cookie_agent.specs.CookiesTxt.{http_only_mark, line_of_fields, split_fields}
use Rattle.cookie_agent.proofs.CookiesTxtLemmas.{marked}
use Rattle.cookie_agent.proofs.saved.cookies_txt.read_line.Goals as goal

pub returns-then-starts_with : goal.returns-then-starts_with
returns-then-starts_with c =
    let line = c.args.line.now in
    let begins : starts_with eqb line http_only_mark ≡ true = sym c.starts_with.ensures.value ∙ c.if-starts_with.true in
    IfOk-weaker c.read_fields.result _ _ (λ read h. h ∙ ap (λ t. line_of_fields c.args.now true (split_fields t)) (take_rest line 10) ∙ sym (marked c.args.now line begins)) c.read_fields.ensures
