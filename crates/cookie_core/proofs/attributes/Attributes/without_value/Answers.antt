use Rattle.std.proofs.Common.{refl}
use Rattle.cookie_core.specs.declared.attributes.Key.TheVariants as key
use Rattle.cookie_core.proofs.ReadingLemmas.{SetsOneField-none, SetsOneField-only}
use Rattle.cookie_core.proofs.attributes.Attributes.without_value.Goals as goal

pub returns-in-HttpOnly-clause-gives : goal.returns-in-HttpOnly-clause-gives
returns-in-HttpOnly-clause-gives c s = rw (c.in-HttpOnly.is, c.unset-unset.ensures) (SetsOneField-only key.HttpOnly _ _ refl)

pub returns-in-Secure-clause-gives : goal.returns-in-Secure-clause-gives
returns-in-Secure-clause-gives c s = rw (c.in-Secure.is, c.unset-unset.ensures) (SetsOneField-only key.Secure _ _ refl)

pub returns-in-Partitioned-clause-gives : goal.returns-in-Partitioned-clause-gives
returns-in-Partitioned-clause-gives c s = rw (c.in-Partitioned.is, c.unset-unset.ensures) (SetsOneField-only key.Partitioned _ _ refl)

pub returns-in-SameSite-clause-gives : goal.returns-in-SameSite-clause-gives
returns-in-SameSite-clause-gives c s = rw c.unset-unset.ensures (SetsOneField-none c.args.key c.in-SameSite.is)
