use Rattle.std.proofs.Common.{List, ℕ, subst}
use Rattle.cookie_session.specs.KeyRing.{IsSignedBy}
use Rattle.cookie_c.specs.Answers.{IsRead}
use Rattle.cookie_c.specs.declared.status.Status.TheVariants as status
use Rattle.cookie_c.proofs.signing.verify.Goals as goal

pub returns : goal.returns
returns c =
    let (same_name, good) = c.in-Ok.ensures.cases in
    let (same_text, fine) = c.in-Ok-from_utf8.ensures.cases in
    let Reads : List ℕ → List ℕ → Type 0 = λ name text. IsRead (IsSignedBy c.args.keys.now name text) status.NotSigned c.give_verified.result c.args.out.now c.give_verified.new.out in
    record {
      not_utf8 = λ bad. absurd (bad (good, fine));
      verified = λ _ _. subst (λ name. Reads name c.args.text.now) same_name (subst (Reads c.in-Ok.name.now) same_text c.give_verified.ensures);
    }
