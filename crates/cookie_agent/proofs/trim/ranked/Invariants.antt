-- The cookies so far are those at the places so far.
use Rattle.std.proofs.Common.{◌≡◌, map, take}
use Rattle.cookie_agent.specs.LimitsCode.{rank_at, ranks, text_of}
use Rattle.cookie_agent.specs.SentCode.{targets}
use Rattle.cookie_agent.proofs.trim.ranked.Given as goal

abbrev pub invariant-loop-index : goal.invariant-loop-index
invariant-loop-index l = ranks l.made.items ≡ map (rank_at (text_of l.suffixes l.group) (targets l.cookies)) (take l.index l.places)
