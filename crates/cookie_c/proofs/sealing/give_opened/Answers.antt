use Rattle.std.proofs.Common.{inl, subst}
use Rattle.cookie_c.specs.Answers.{IsGiven}
use Rattle.cookie_c.proofs.KeyCallLemmas.{sealed_some}
use Rattle.cookie_c.proofs.sealing.give_opened.Goals as goal

pub returns-in-Ok-Some : goal.returns-in-Ok-Some
returns-in-Ok-Some c =
    inl (sealed_some c.args.keys.now c.args.name.now c.args.text.now c.in-Ok-Some.field-0 c.in-Ok-Some.ensures c.give.result c.args.out.now c.give.new.out
    c.in-Ok-Some.opened c.in-Ok-Some.field-0-is (subst (λ text. IsGiven text c.give.result c.args.out.now c.give.new.out) c.as_bytes.ensures.value c.give.ensures))
