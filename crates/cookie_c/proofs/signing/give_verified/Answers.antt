use Rattle.std.proofs.Common.{inr, refl}
use Rattle.cookie_c.proofs.signing.give_verified.Goals as goal

pub returns-in-None : goal.returns-in-None
returns-in-None c =
    inr (c.verify_text.ensures.none c.in-None.is, record { told = c.refusal.ensures; kept = refl })
