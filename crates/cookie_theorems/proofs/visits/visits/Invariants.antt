use Rattle.std.proofs.Common.{◌++◌, [], List, drop}
use Rattle.cookie_theorems.specs.Visits.{AreVisited}
use Rattle.cookie_theorems.specs.declared.visited.Visited.{Visited}
use Rattle.cookie_theorems.proofs.visits.visits.Given as goal

-- whatever completes the visits from the agent on completes all
abbrev pub invariant-loop-request : goal.invariant-loop-request
invariant-loop-request l =
    (rest : List Visited) → AreVisited l.agent (drop l.request-index l.requests) rest → AreVisited (record { rules = l.suffixes; cookies = [] }) l.requests (l.visited.items ++ rest)
