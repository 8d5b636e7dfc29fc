use Rattle.std.proofs.Common.{ℕ, List, refl, None}
use Rattle.cookie_date.specs.Forms.{ReadsAsDate}
use Rattle.cookie_core.specs.Attributes.{GivesExpiry}
use Rattle.cookie_core.specs.declared.expiration.Expiration.{Expiration}
use Rattle.cookie_core.specs.declared.expiration.Expiration.TheVariants as expiration
use Rattle.cookie_core.proofs.attributes.expiration.Goals as goal

no_expiry : (t : List ℕ) → ReadsAsDate t None → (x : Expiration) → ¬ (GivesExpiry t x)
no_expiry t none (expiration.DateTime m) gives = let e = (none m).1 gives in absurd cc
no_expiry t none expiration.Session gives = gives

pub returns-in_err-moment : goal.returns-in_err-moment
returns-in_err-moment c = rw c.from_residual.ensures (no_expiry c.args.text.now c.in_err-moment.ensures.exact)

pub returns : goal.returns
returns c = (c.in_ok-moment.ensures.exact _).0 refl
