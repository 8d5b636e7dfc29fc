use Rattle.std.proofs.Common.{◌≡◌, map}
use Rattle.std.specs.Vec.Iter.{into_iter_items}
use Rattle.cookie.specs.Originals.{with_originals}
use Rattle.cookie.proofs.jar.CookieJar.with_each.Given as goal

-- the jar so far, with the cookies that are left, is the whole
abbrev pub invariant-loop-cookie : goal.invariant-loop-cookie
invariant-loop-cookie l =
    with_originals (map (λ c. c.fields) (into_iter_items l.cookie-iterator)) l.jar ≡ with_originals (map (λ c. c.fields) l.fn.cookies.items) l.fn.self
