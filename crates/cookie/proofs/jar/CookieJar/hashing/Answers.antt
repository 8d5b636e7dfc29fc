use Rattle.std.proofs.Common.{sym, ◌∙◌}
use Rattle.cookie.proofs.HistoryLemmas.{looks_back}
use Rattle.cookie.proofs.NameLemmas.{IsKeyedByName-empty}
use Rattle.cookie.proofs.jar.CookieJar.hashing.Goals as goal

pub invariant_of-result : goal.invariant_of-result
invariant_of-result c = (
  record {
    originals = rw c.hashing.ensures.entries (IsKeyedByName-empty _);
    delta = rw c.hashing-2.ensures.entries (IsKeyedByName-empty _);
  },
  c.hashing.ensures.hash ∙ sym c.hashing-2.ensures.hash,
)

pub returns-clause-history : goal.returns-clause-history
returns-clause-history c = λ changes. rw (c.hashing.ensures.entries, c.hashing-2.ensures.entries) (looks_back changes)
