-- Each number so far differs from the one that is so far before it.
use Rattle.std.proofs.Common.{◌≡◌, ◌==◌, ◌<◌, ◌≤◌, ◌-◌, ℕ, false, get_or}
use Rattle.cookie_agent.proofs.trim.is_spread.Given as goal

abbrev pub invariant-loop-index : goal.invariant-loop-index
invariant-loop-index l = (k : ℕ) → l.limit ≤ k → k < l.index → (get_or l.numbers k 0 == get_or l.numbers (k - l.limit) 0) ≡ false
