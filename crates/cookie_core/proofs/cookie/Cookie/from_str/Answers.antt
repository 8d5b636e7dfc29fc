use Rattle.std.proofs.Common.{false}
use Rattle.cookie_core.proofs.DecodeLemmas.{AgreesInMemory-reads, ReadsInMemory-own, ReadsInMemory-reads}
use Rattle.cookie_core.proofs.cookie.Cookie.from_str.Goals as goal

pub returns-clause-reads : goal.returns-clause-reads
returns-clause-reads c = (ReadsInMemory-own false c.args.text.now _ _ (ReadsInMemory-reads false c.args.text.now _ c.parse.ensures.reads) c.make_own.ensures).0

pub returns-clause-value : goal.returns-clause-value
returns-clause-value c = AgreesInMemory-reads false c.args.text.now _ (ReadsInMemory-own false c.args.text.now _ _ (ReadsInMemory-reads false c.args.text.now _ c.parse.ensures.reads) c.make_own.ensures).0

pub returns-clause-raw : goal.returns-clause-raw
returns-clause-raw c = (ReadsInMemory-own false c.args.text.now _ _ (ReadsInMemory-reads false c.args.text.now _ c.parse.ensures.reads) c.make_own.ensures).1
