use Rattle.std.proofs.Common.{refl}
use Rattle.cookie_core.specs.Parts.{part_text}
use Rattle.cookie_core.specs.declared.attributes.Key.TheVariants as key
use Rattle.cookie_core.proofs.ReadingLemmas.{SetsOneField-flag, SetsOneField-only, age-field, undotted-field}
use Rattle.cookie_core.proofs.attributes.Attributes.with_value.Goals as goal

pub returns-in-HttpOnly-clause-gives : goal.returns-in-HttpOnly-clause-gives
returns-in-HttpOnly-clause-gives c = SetsOneField-flag c.args.key _ _ c.in-HttpOnly.is (c.without_value.ensures.gives _)

pub returns-in-SameSite-clause-gives : goal.returns-in-SameSite-clause-gives
returns-in-SameSite-clause-gives c = rw (c.in-SameSite.is, c.unset-unset.ensures) (SetsOneField-only key.SameSite _ _ (rw c.text.ensures at c.same_site.ensures))

pub returns-in-Path-clause-gives : goal.returns-in-Path-clause-gives
returns-in-Path-clause-gives c = rw (c.in-Path.is, c.unset-unset.ensures) (SetsOneField-only key.Path _ _ refl)

pub returns-in-Domain-clause-gives : goal.returns-in-Domain-clause-gives
returns-in-Domain-clause-gives c = rw (c.in-Domain.is, c.unset-unset.ensures) (SetsOneField-only key.Domain _ _ (undotted-field c.args.value c.unless_empty.result c.unless_empty.ensures))

pub returns-in-MaxAge-clause-gives : goal.returns-in-MaxAge-clause-gives
returns-in-MaxAge-clause-gives c = rw (c.in-MaxAge.is, c.unset-unset.ensures) (SetsOneField-only key.MaxAge _ _ (age-field (part_text c.args.value) c.max_age.result (rw c.text-in-MaxAge.ensures at c.max_age.ensures)))

pub returns-in-Expires-clause-gives : goal.returns-in-Expires-clause-gives
returns-in-Expires-clause-gives c = rw (c.in-Expires.is, c.unset-unset.ensures) (SetsOneField-only key.Expires _ _ (rw c.text-in-Expires.ensures at c.expiration.ensures))
