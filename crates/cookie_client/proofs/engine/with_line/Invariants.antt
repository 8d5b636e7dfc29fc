use Rattle.std.proofs.Common.{◌≡◌, true, map}
use Rattle.std.specs.List.{filter_map}
use Rattle.cookie.specs.CookieOf.{cookie_of, header_cookies}
use Rattle.cookie.specs.History.{after_all}
use Rattle.cookie.specs.Jar.{AddOriginal}
use Rattle.cookie_client.proofs.engine.with_line.Given as goal

-- the jar so far, with the cookies of the rest, is the whole
abbrev pub invariant-loop-outcome : goal.invariant-loop-outcome
invariant-loop-outcome l = record {
  is_decoded : l.outcome-iterator.is_decoded ≡ true;
  jar : after_all (map AddOriginal (filter_map (cookie_of true) l.outcome-iterator.texts)) l.jar ≡ after_all (map AddOriginal (header_cookies true l.line)) l.fn.jar;
}
