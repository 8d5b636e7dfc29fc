use Rattle.cookie_core.proofs.SpanLemmas.{span_text-within}
use Rattle.cookie_core.proofs.part.Part.inner.Goals as goal

pub returns-clause-text : goal.returns-clause-text
returns-clause-text c = span_text-within c.args.self.whole.now c.args.self.span c.args.span c.args.self.stands c.requires
