use Rattle.std.proofs.Common.{inl, subst}
use Rattle.cookie_c.specs.Tokens.{ReadsToken}
use Rattle.cookie_c.proofs.tokens.read.Goals as goal

pub returns-in-Ok : goal.returns-in-Ok
returns-in-Ok c =
    let call = c.in-Ok.call in
    inl (
      call.tokens,
      call.time,
      c.in-Ok.ensures.1,
      subst (λ text. ReadsToken call.tokens call.time text c.give_read.result c.args.out.now c.give_read.new.out) c.in-Ok.ensures.0 c.give_read.ensures,
    )
