use Rattle.cookie_c.proofs.PrintLemmas.{expiry-whole}
use Rattle.cookie_c.proofs.print.expiry.Goals as goal

pub returns-in-Some : goal.returns-in-Some
returns-in-Some c =
    ((λ is. c.in-Some.ensures.0), expiry-whole c.args.numbers.now c.in-Some.moment c.if-numbers-ne1.false c.in-Some.ensures.1)
