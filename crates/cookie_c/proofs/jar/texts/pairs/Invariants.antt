use Rattle.std.proofs.Common.{fold, map}
use Rattle.cookie.specs.Record.{Record}
use Rattle.cookie_c.specs.Jars.{HasPairs}
use Rattle.cookie_c.specs.TextLists.{with_listed}
use Rattle.cookie_c.proofs.jar.texts.pairs.Given as goal

-- the list so far, with the cookies that are left, is the jar's
abbrev pub invariant-loop-cookie : goal.invariant-loop-cookie
invariant-loop-cookie l = HasPairs l.jar (fold with_listed l.list.items (map (λ (cookie : Record). (cookie.name, cookie.value)) l.cookie-iterator))
