-- A builder that hands out what it builds.
use Rattle.std.specs.Borrow.{Lends, MutBor, Fml, RattleType}
use Rattle.cookie_core.specs.contracts.builder.Builder as builder

module _ (C : RattleType) where
  -- the builder ends as what was left after the result
  abbrev pub LendsInner : MutBor C.Denot → MutBor C.Denot → Fml
  LendsInner taken given = Lends (builder.the_row C) C taken given (λ inner. inner)
