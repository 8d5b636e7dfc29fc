use Rattle.std.proofs.Common.{false, Ok, subst}
use Rattle.cookie_core.specs.Layout.{attributes_of}
use Rattle.cookie_core.specs.Reads.{Reads}
use Rattle.cookie_core.specs.Spans.{span_text}
use Rattle.cookie_core.proofs.layout.Layout.pair_spans.Goals as goal

pub returns-in-Ok-clause-reads : goal.returns-in-Ok-clause-reads
returns-in-Ok-clause-reads c =
    let text = c.args.text.now in
    let layout = c.in-Ok.layout in
    let unset = rw c.in-Ok.is at c.of_pair.ensures.unset in
    subst (λ a. Reads false text (Ok (record (attributes_of text a) { name = span_text text layout.name; value = span_text text layout.value }))) unset (rw c.in-Ok.is at c.of_pair.ensures.reads)
