-- Without a name it doesn't fit. With one, the verdict and the tests decide.
use Rattle.std.proofs.Common.{IsTrue, ◌↔◌, sym, ap, subst, ◌∙◌}
use Rattle.std.proofs.lemmas.Bool.{false≢true}
use Rattle.cookie_theorems.specs.PlannedCalls.{IsPlannedAddition}
use Rattle.cookie_agent.specs.VerdictCode.{verdict_result}
use Rattle.cookie_theorems.proofs.PlanLemmas.{addition_told, addition_nameless, addition_refused}
use Rattle.cookie_theorems.proofs.plan.Plan.fits_addition.Goals as goal

pub returns-then-not-has_name : goal.returns-then-not-has_name
returns-then-not-has_name c plans at =
    addition_nameless c.args.suffixes.now c.args.site.now c.args.now c.args.self.now c.args.cookie.now.fields plans at
    (λ named. false≢true (sym c.if-not-has_name.true ∙ c.has_name.ensures.1 named))

pub returns-in-Stored : goal.returns-in-Stored
returns-in-Stored c plans at =
    subst (λ b. IsTrue b ↔ IsPlannedAddition c.args.suffixes.now c.args.site.now c.args.now plans c.args.cookie.now.fields) (sym c.fits_and_is_sent.ensures)
    (addition_told c.args.suffixes.now c.args.site.now c.args.now c.args.self.now c.args.cookie.now.fields plans at
    (c.has_name.ensures.0 c.if-not-has_name.false) c.in-Stored.stored
    (sym c.in_ok-stored.ensures ∙ ap verdict_result c.in-Stored.is))

pub returns-in-Refused : goal.returns-in-Refused
returns-in-Refused c plans at =
    addition_refused c.args.suffixes.now c.args.site.now c.args.now c.args.self.now c.args.cookie.now.fields plans at c.in-Refused.field-0
    (sym c.in_ok-stored.ensures ∙ ap verdict_result c.in-Refused.is)
