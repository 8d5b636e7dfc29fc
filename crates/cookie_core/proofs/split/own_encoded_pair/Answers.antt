use Rattle.std.proofs.Common.{true}
use Rattle.cookie_core.proofs.DecodeLemmas.{ReadsInMemory-own}
use Rattle.cookie_core.proofs.split.own_encoded_pair.Goals as goal

pub returns-clause-reads : goal.returns-clause-reads
returns-clause-reads c =
    (ReadsInMemory-own true _ _ _ c.read_encoded_pair.ensures.reads c.make_own.ensures).0
