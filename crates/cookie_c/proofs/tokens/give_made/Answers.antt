use Rattle.std.proofs.Common.{subst, sym, ◌∙◌}
use Rattle.std.specs.String.{string_bytes}
use Rattle.cookie_c.specs.Answers.{IsGiven}
use Rattle.cookie_c.proofs.TokenLemmas.{makes_given}
use Rattle.cookie_c.proofs.tokens.give_made.Goals as goal

pub returns-in-Ok : goal.returns-in-Ok
returns-in-Ok c =
    let (drawn, long, filled, is) = c.in-Ok.ensures.ok in
    makes_given c.args.tokens.now c.args.nonce.bytes.now c.args.time c.args.value.now c.give.result c.args.out.now c.give.new.out drawn (string_bytes c.in-Ok.token)
    (filled.1 (long.long ∙ sym c.requires)) is c.in-Ok.ensures.within c.in-Ok.ensures.reads
    (subst (λ text. IsGiven text c.give.result c.args.out.now c.give.new.out) c.as_bytes.ensures.value c.give.ensures)
