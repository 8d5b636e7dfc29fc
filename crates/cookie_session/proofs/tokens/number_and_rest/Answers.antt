use Rattle.std.proofs.Common.{None, Some, refl}
use Rattle.cookie_session.proofs.TokenLemmas.{numbered, unread, unsplit}
use Rattle.cookie_session.proofs.tokens.number_and_rest.Goals as goal

pub returns-in_default : goal.returns-in_default
returns-in_default c = unsplit c.args.text.now c.in_default.ensures.cases

pub returns-in_default-exact_number : goal.returns-in_default-exact_number
returns-in_default-exact_number c =
    unread c.args.text.now c.in-Some.number c.in-Some.rest c.in-Some.ensures.cases None c.in_default-exact_number.ensures refl

pub returns : goal.returns
returns c =
    numbered c.args.text.now c.in-Some.number c.in-Some.rest c.in-Some.ensures.cases (Some c.in-Some-exact_number.number) c.in-Some-exact_number.ensures
    c.in-Some-exact_number.number refl
