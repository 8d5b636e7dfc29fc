use Rattle.std.proofs.Common.{◌≡◌, false, true, sym, ◌∙◌}
use Rattle.cookie.proofs.SigningLemmas.{covers_one_pair, verified_unsplit, verified_same, verified_other}
use Rattle.cookie.proofs.secure.signer.Signer.verify.Goals as goal

pub returns-in_default-clause-exact : goal.returns-in_default-clause-exact
returns-in_default-clause-exact c =
    verified_unsplit c.args.self.now c.args.name.now c.args.text.now c.utf8.text (λ b. let h = c.in_default.ensures.variant.1 b in cc)

pub returns-in_default-clause-one_pair : goal.returns-in_default-clause-one_pair
returns-in_default-clause-one_pair c = covers_one_pair

pub returns-then-are_equal-clause-exact : goal.returns-then-are_equal-clause-exact
returns-then-are_equal-clause-exact c =
    verified_same c.args.self.now c.args.name.now c.args.text.now c.in-Some.front.now c.in-Some.value.now c.in-Some.ensures.front c.in-Some.ensures.back (
    sym c.as_bytes.ensures.value ∙ c.are_equal.ensures.0 c.if-are_equal.true ∙ c.signature.ensures)

pub returns-then-are_equal-clause-one_pair : goal.returns-then-are_equal-clause-one_pair
returns-then-are_equal-clause-one_pair c = covers_one_pair

pub returns-else-are_equal-clause-exact : goal.returns-else-are_equal-clause-exact
returns-else-are_equal-clause-exact c =
    verified_other c.args.self.now c.args.name.now c.args.text.now c.in-Some.front.now c.in-Some.value.now c.in-Some.ensures.front c.in-Some.ensures.back (λ same.
    let equal = c.are_equal.ensures.1 (c.as_bytes.ensures.value ∙ same ∙ sym c.signature.ensures) in
    let clash : true ≡ false = sym equal ∙ c.if-are_equal.false in
    cc)

pub returns-else-are_equal-clause-one_pair : goal.returns-else-are_equal-clause-one_pair
returns-else-are_equal-clause-one_pair c = covers_one_pair
