use Rattle.std.proofs.Common.{inl, inr, refl, subst}
use Rattle.cookie_report.specs.Addresses.{IsAddress}
use Rattle.cookie_c.specs.declared.status.Status.TheVariants as status
use Rattle.cookie_c.proofs.report.report_at.Goals as goal

pub returns-in_default : goal.returns-in_default
returns-in_default c = inr (status.NotUtf8, record { told = c.refusal.ensures; kept = refl })

pub returns-in-Ok-report : goal.returns-in-Ok-report
returns-in-Ok-report c =
    inl (subst IsAddress c.in-Ok.ensures.cases.0 c.in-Ok-report.ensures, c.deref.result.now, c.give.ensures)
