use Rattle.std.proofs.Common.{inr, refl}
use Rattle.cookie_c.specs.declared.status.Status.TheVariants as status
use Rattle.cookie_c.proofs.jar.calls.cookie_jar_new.Goals as goal

pub returns-in_default : goal.returns-in_default
returns-in_default c = (status.OutOfMemory, c.code.ensures, inr (refl, refl))
