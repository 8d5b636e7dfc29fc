use Rattle.std.proofs.Common.{Some, ap, subst, sym, ◌∙◌}
use Rattle.cookie.specs.Expiration.{capped_expiry}
use Rattle.cookie.specs.declared.Expiration.{Expiration}
use Rattle.cookie_c.specs.Lastings.{IsKept}
use Rattle.cookie_c.specs.declared.sessions.lasting.Lasting.{Lasting}
use Rattle.cookie_c.specs.declared.sessions.lasting.Lasting.TheVariants as lasting
use Rattle.cookie_c.proofs.sessions.lasting.Lasting.kept.Goals as goal

pub returns-in-MaxAgeAndExpires : goal.returns-in-MaxAgeAndExpires
returns-in-MaxAgeAndExpires c =
    let (moment, at, is) = c.expiry_of-end.ensures in
    let with : IsKept lasting.MaxAgeAndExpires c.args.now c.args.cookie.fields c.set_expires.new.self.fields =
    (moment, at, c.set_expires.ensures.fields ∙ ap (λ (e : Expiration). record c.args.cookie.fields { expires = Some (capped_expiry e) }) is) in
    subst (λ (way : Lasting). IsKept way c.args.now c.args.cookie.fields c.set_expires.new.self.fields) (sym c.in-MaxAgeAndExpires.is) with
