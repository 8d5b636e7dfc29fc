-- The cookies so far are stored, and the map has their places.
use Rattle.std.proofs.Common.{◌≡◌, [], take}
use Rattle.cookie_agent.specs.SentCode.{targets}
use Rattle.cookie_agent.specs.Stored.{IsApart, kept_with_each}
use Rattle.cookie_agent.specs.StoredCode.{ArePlaces}
use Rattle.cookie_agent.proofs.in_turn.stored_in_turn.Given as goal

abbrev pub invariant-loop-cookie : goal.invariant-loop-cookie
invariant-loop-cookie l = record {
  value : targets l.made.items ≡ kept_with_each (targets (take l.cookie-index l.cookies)) [];
  apart : IsApart (targets l.made.items);
  places : ArePlaces l.places (targets l.made.items);
}
