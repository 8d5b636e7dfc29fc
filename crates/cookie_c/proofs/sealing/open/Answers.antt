use Rattle.std.proofs.Common.{List, ℕ, subst}
use Rattle.cookie_c.specs.Answers.{IsReadInMemory}
use Rattle.cookie_c.specs.KeyCalls.{IsSealedBy}
use Rattle.cookie_c.specs.declared.status.Status.TheVariants as status
use Rattle.cookie_c.proofs.sealing.open.Goals as goal

pub returns : goal.returns
returns c =
    let (same_name, good) = c.in-Ok.ensures.cases in
    let (same_text, fine) = c.in-Ok-from_utf8.ensures.cases in
    let Reads : List ℕ → List ℕ → Type 0 = λ name text. IsReadInMemory (IsSealedBy c.args.keys.now name text) status.NotSealed c.give_opened.result c.args.out.now c.give_opened.new.out in
    record {
      not_utf8 = λ bad. absurd (bad (good, fine));
      opened = λ _ _. subst (λ name. Reads name c.args.text.now) same_name (subst (Reads c.in-Ok.name.now) same_text c.give_opened.ensures);
    }
