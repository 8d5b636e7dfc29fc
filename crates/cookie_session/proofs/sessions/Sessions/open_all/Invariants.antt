use Rattle.std.proofs.Common.{map, take}
use Rattle.cookie_session.specs.Sessions.{AreFound, EachHoldsOne, site_cookies}
use Rattle.cookie_session.proofs.sessions.Sessions.open_all.Given as goal

-- what is found so far is what is open in the cookies so far that have the site's name, and each of these holds one
-- session at most
abbrev pub invariant-loop-cookie : goal.invariant-loop-cookie
invariant-loop-cookie l =
    let tried = site_cookies l.self (take l.cookie-index (map (λ c. c.fields) l.cookies)) in
    AreFound l.self l.now tried l.found.items × EachHoldsOne l.self tried
