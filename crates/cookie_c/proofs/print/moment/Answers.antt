use Rattle.std.proofs.Common.{rules, refl}
use Rattle.std.proofs.lemmas.Int.{to_z-of_z}
use mir.Syntax.{w8, w16}
use mir.Val.{SFits}
use Rattle.cookie_c.proofs.print.moment.Goals as goal

pub returns-in-Ok : goal.returns-in-Ok
returns-in-Ok c =
    let numbers = c.args.at.now in
    let year : SFits w16 numbers.year = search rules in
    let month : SFits w8 numbers.month = search rules in
    let day : SFits w8 numbers.day = search rules in
    let hour : SFits w8 numbers.hour = search rules in
    let minute : SFits w8 numbers.minute = search rules in
    let second : SFits w8 numbers.second = search rules in
    (simp to_z-of_z at (c.in-Ok.ensures.succeeds.0 refl), simp to_z-of_z at c.in-Ok.ensures.value)
