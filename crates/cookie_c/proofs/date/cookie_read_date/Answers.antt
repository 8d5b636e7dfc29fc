use Rattle.std.proofs.Common.{Some, None, sym, ◌∙◌}
use Rattle.cookie_c.proofs.DateLemmas.{moment_in-bad, moment_in-text}
use Rattle.cookie_c.proofs.date.cookie_read_date.Goals as goal

pub returns-in_default : goal.returns-in_default
returns-in_default c = c.refusal.ensures ∙ sym (moment_in-bad c.args.text.now c.in_default.ensures.cases.0)

pub returns-in-Some : goal.returns-in-Some
returns-in-Some c =
    c.of.ensures
    ∙ moment_in-text c.args.text.now c.in-Ok.text.now (Some c.in-Some.moment) c.in-Ok.ensures.cases.0 c.in-Ok.ensures.cases.1 c.in-Some.ensures.value

pub returns-in-None : goal.returns-in-None
returns-in-None c =
    c.refusal-in-None.ensures
    ∙ moment_in-text c.args.text.now c.in-Ok.text.now None c.in-Ok.ensures.cases.0 c.in-Ok.ensures.cases.1 c.in-None.ensures.value
