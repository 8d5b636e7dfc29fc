use Rattle.std.proofs.Common.{inl, inr, refl, sym, ◌∙◌}
use Rattle.std.proofs.lemmas.Option.{none-some}
use Rattle.cookie_session.proofs.TokenLemmas.{token_long}
use Rattle.cookie_c.proofs.tokens.give_read.Goals as goal

pub give-requires : goal.give-requires
give-requires c =
    token_long c.args.tokens.now c.args.time c.args.text.now c.in-Ok-Some.token ((c.in-Ok-Some.ensures c.in-Ok-Some.token).0 c.in-Ok-Some.field-0-is)

pub returns-in-Ok-None : goal.returns-in-Ok-None
returns-in-Ok-None c =
    inr (inl (
      λ token is. none-some token (sym c.in-Ok-None.field-0-is ∙ (c.in-Ok-None.ensures token).1 is),
      c.none.ensures,
      refl,
    ))
