use Rattle.cookie_core.specs.Record.{all_lent}
use Rattle.cookie_core.proofs.DecodeLemmas.{ReadsInMemory-outcome, raw-outcome, LendsDecoded-raw}
use Rattle.cookie_core.proofs.cookie.Cookie.read_encoded_pair.Goals as goal

pub returns-clause-reads : goal.returns-clause-reads
returns-clause-reads c = (ReadsInMemory-outcome _ _ _ c.read_pair.ensures.reads c.decode_read.ensures).0

pub returns-clause-fault : goal.returns-clause-fault
returns-clause-fault c = (ReadsInMemory-outcome _ _ _ c.read_pair.ensures.reads c.decode_read.ensures).1

pub returns-clause-certain : goal.returns-clause-certain
returns-clause-certain c = (ReadsInMemory-outcome _ _ _ c.read_pair.ensures.reads c.decode_read.ensures).2

pub returns-clause-raw : goal.returns-clause-raw
returns-clause-raw c =
    LendsDecoded-raw c.args.text.now _ (raw-outcome _ all_lent _ _ c.read_pair.ensures.reads c.read_pair.ensures.raw c.decode_read.ensures)
