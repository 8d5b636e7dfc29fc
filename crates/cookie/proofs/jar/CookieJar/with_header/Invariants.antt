use Rattle.std.proofs.Common.{◌≡◌, true}
use Rattle.std.specs.List.{filter_map}
use Rattle.cookie_core.specs.CookieOf.{cookie_of, header_cookies}
use Rattle.cookie.specs.Originals.{with_originals}
use Rattle.cookie.proofs.jar.CookieJar.with_header.Given as goal

-- the jar so far, with the cookies of the rest, is the whole
abbrev pub invariant-loop-outcome : goal.invariant-loop-outcome
invariant-loop-outcome l = record {
  is_decoded : l.outcome-iterator.is_decoded ≡ true;
  jar : with_originals (filter_map (cookie_of true) l.outcome-iterator.texts) l.jar ≡ with_originals (header_cookies true l.header) l.fn.self;
}
