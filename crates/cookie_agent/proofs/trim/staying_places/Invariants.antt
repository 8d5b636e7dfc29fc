-- The places so far are those of the cookies so far that stay.
use Rattle.std.proofs.Common.{◌≡◌, filter, map, take}
use Rattle.cookie_agent.specs.LimitsCode.{ranks, stays}
use Rattle.cookie_agent.proofs.trim.staying_places.Given as goal

abbrev pub invariant-loop-index : goal.invariant-loop-index
invariant-loop-index l =
    l.kept.items ≡ map (λ r. r.place) (filter (stays l.group l.limit (ranks l.ranked)) (take l.index (ranks l.ranked)))
