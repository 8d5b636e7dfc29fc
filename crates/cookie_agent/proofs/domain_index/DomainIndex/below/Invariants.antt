-- The numbers under the key are found, and those under each key of the range are, or are still to come.
use Rattle.std.proofs.Common.{ℕ, List, Contains, ◌⊎◌}
use Rattle.cookie_agent.specs.IndexCode.{IsNumberAt}
use Rattle.cookie_agent.proofs.DomainIndexLemmas.{numbers_of}
use Rattle.cookie_agent.proofs.domain_index.DomainIndex.below.Given as goal

abbrev pub invariant-loop-numbers : goal.invariant-loop-numbers
invariant-loop-numbers l = record {
  whole : (n : ℕ) → IsNumberAt l.self l.key.items n → Contains l.found.items n;
  rest : (q : List ℕ) (n : ℕ) → Contains (numbers_of q l.initial.numbers-iterator) n → Contains l.found.items n ⊎ Contains (numbers_of q l.numbers-iterator) n;
}
