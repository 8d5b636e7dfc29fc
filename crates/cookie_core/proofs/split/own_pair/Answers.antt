use Rattle.std.proofs.Common.{false}
use Rattle.cookie_core.proofs.DecodeLemmas.{ReadsInMemory-own, ReadsInMemory-reads}
use Rattle.cookie_core.proofs.split.own_pair.Goals as goal

pub returns-clause-reads : goal.returns-clause-reads
returns-clause-reads c =
    (ReadsInMemory-own false _ _ _ (ReadsInMemory-reads false _ _ c.read_pair.ensures.reads) c.make_own.ensures).0
