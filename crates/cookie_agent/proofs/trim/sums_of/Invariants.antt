-- The sums so far are of the texts so far.
use Rattle.std.proofs.Common.{◌≡◌, [], map, take}
use Rattle.cookie_agent.specs.LimitsCode.{ranks}
use Rattle.cookie_agent.specs.SumsCode.{sum_of}
use Rattle.cookie_agent.proofs.trim.sums_of.Given as goal

abbrev pub invariant-loop-rank : goal.invariant-loop-rank
invariant-loop-rank l = l.sums.items ≡ map (λ r. sum_of r.text []) (ranks (take l.rank-index l.ranked))
