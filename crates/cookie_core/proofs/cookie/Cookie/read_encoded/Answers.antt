use Rattle.cookie_core.specs.CookieStr.{lent_forms}
use Rattle.cookie_core.proofs.DecodeLemmas.{ReadsInMemory-outcome, raw-outcome}
use Rattle.cookie_core.proofs.cookie.Cookie.read_encoded.Goals as goal

pub returns-clause-reads : goal.returns-clause-reads
returns-clause-reads c = (ReadsInMemory-outcome _ _ _ c.read.ensures.reads c.decode_read.ensures).0

pub returns-clause-fault : goal.returns-clause-fault
returns-clause-fault c = (ReadsInMemory-outcome _ _ _ c.read.ensures.reads c.decode_read.ensures).1

pub returns-clause-certain : goal.returns-clause-certain
returns-clause-certain c = (ReadsInMemory-outcome _ _ _ c.read.ensures.reads c.decode_read.ensures).2

pub returns-clause-raw : goal.returns-clause-raw
returns-clause-raw c =
    raw-outcome _ (lent_forms c.args.source) _ _ c.read.ensures.reads c.read.ensures.raw c.decode_read.ensures
