use Rattle.std.proofs.Common.{◌≡◌, ◌+◌, ◌<◌, ◌^◌, List, length}
use Rattle.cookie.specs.Record.{Record}
use Rattle.cookie.specs.DeltaTexts.{WalksDelta}
use Rattle.cookie_http.proofs.response.count.Given as goal

-- the cookies counted so far, with those that are left, are those of a walk
abbrev pub invariant-loop-cookie : goal.invariant-loop-cookie
invariant-loop-cookie l =
    (cookies : List Record) × WalksDelta l.jar.delta cookies × (length cookies < 2 ^ 64)
    × (l.count + length l._cookie-iterator ≡ length cookies)
