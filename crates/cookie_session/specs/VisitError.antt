-- Which failure of a visit it is of a failure to open.
use Rattle.cookie_session.specs.declared.open_error.OpenError.{OpenError}
use Rattle.cookie_session.specs.declared.open_error.OpenError.TheVariants as unopened
use Rattle.cookie_session.specs.declared.session_error.SessionError.TheVariants as refusal
use Rattle.cookie_session.specs.declared.visit_error.VisitError.{VisitError}
use Rattle.cookie_session.specs.declared.visit_error.VisitError.TheVariants as failure

abbrev pub failure_of : {E : Type 0} → OpenError E → VisitError E
failure_of unopened.OutOfMemory = failure.Session refusal.OutOfMemory
failure_of (unopened.Revocations error) = failure.Revocations error
