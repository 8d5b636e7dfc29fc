-- The numbers under the key, and those under each part of it before a dot so far, are found.
use Rattle.std.proofs.Common.{◌≡◌, ℕ, ◌<◌, Contains, get_or, take}
use Rattle.cookie_agent.specs.IndexCode.{IsNumberAt}
use Rattle.cookie_agent.proofs.domain_index.DomainIndex.above.Given as goal

abbrev pub invariant-loop-end : goal.invariant-loop-end
invariant-loop-end l = record {
  whole : (n : ℕ) → IsNumberAt l.self l.key.items n → Contains l.found.items n;
  dots : (k : ℕ) → k < l.end → get_or l.key.items k 0 ≡ 46 → (n : ℕ) → IsNumberAt l.self (take k l.key.items) n → Contains l.found.items n;
}
