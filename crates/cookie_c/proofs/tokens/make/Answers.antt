use Rattle.std.proofs.Common.{inl, subst}
use Rattle.cookie_c.specs.Tokens.{MakesToken}
use Rattle.cookie_c.proofs.tokens.make.Goals as goal

pub returns-in-Ok : goal.returns-in-Ok
returns-in-Ok c =
    let call = c.in-Ok.call in
    inl (
      call.tokens,
      call.time,
      c.in-Ok.ensures.1,
      subst (λ text. MakesToken call.tokens c.args.nonce.bytes.now call.time text c.give_made.result c.args.out.now c.give_made.new.out) c.in-Ok.ensures.0 c.give_made.ensures,
    )
