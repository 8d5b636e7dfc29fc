use Rattle.std.proofs.Common.{◌≡◌, ◌+◌, ◌-◌, sym, ap, ◌∙◌, arith}
use Rattle.cookie_date.specs.CookieDate.{month_from}
use Rattle.cookie_date.proofs.TokenLemmas.{month-found, month-missed}
use Rattle.cookie_date.proofs.tokens.month_in.Goals as goal

pub returns-then-is_month-clause-value : goal.returns-then-is_month-clause-value
returns-then-is_month-clause-value c =
    let n = c.loop-month.month in
    sym (c.loop-month.invariant ∙ month-found (13 - n) (13 - (n + 1)) n c.args.token.now (omega arith) (sym c.is_month.ensures ∙ c.if-is_month.true))

pub loop-month-preserved : goal.loop-month-preserved
loop-month-preserved c =
    let n = c.loop-month.month in
    c.loop-month.invariant ∙ month-missed (13 - n) (13 - (n + 1)) n c.args.token.now (omega arith) (sym c.is_month.ensures ∙ c.if-is_month.false)

pub returns-clause-value : goal.returns-clause-value
unfolding month_from
returns-clause-value c =
    let all_tried : 13 - c.loop-month.month ≡ 0 = omega arith in
    sym (c.loop-month.invariant ∙ ap (λ left. month_from left c.loop-month.month c.args.token.now) all_tried)
