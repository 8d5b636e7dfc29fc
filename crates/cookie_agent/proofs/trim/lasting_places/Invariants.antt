-- The places so far have the cookies so far that last.
use Rattle.std.proofs.Common.{◌≡◌, take}
use Rattle.cookie_browser.specs.Storage.{lasting}
use Rattle.cookie_agent.specs.LimitsCode.{IsInOrder, picked}
use Rattle.cookie_agent.specs.SentCode.{targets}
use Rattle.cookie_agent.proofs.trim.lasting_places.Given as goal

abbrev pub invariant-loop-index : goal.invariant-loop-index
invariant-loop-index l = record {
  value : picked (targets l.cookies) l.places.items ≡ lasting l.now (take l.index (targets l.cookies));
  in_order : IsInOrder l.index l.places.items;
}
