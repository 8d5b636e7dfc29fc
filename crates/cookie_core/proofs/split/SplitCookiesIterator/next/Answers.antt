use Rattle.std.proofs.Common.{refl, ap, ◌∙◌}
use Rattle.cookie_core.specs.Spans.{span_text}
use Rattle.cookie_core.specs.SplitCode.{header_bytes, texts_in}
use Rattle.cookie_core.proofs.split.SplitCookiesIterator.next.Goals as goal

pub returns-clause-steps : goal.returns-clause-steps
returns-clause-steps c =
    let first = rw c.text.ensures at c.in_ok-piece.ensures in
    rw (← c.self.view_is) (
      span_text (header_bytes c.self.inside.header) c.in_ok-piece.piece,
      ap (texts_in (header_bytes c.self.inside.header)) c.in_ok-self.was ∙ first.2,
      record {
        reads = c.item.ensures.reads;
        fault = c.item.ensures.fault;
        certain = c.item.ensures.certain;
        lends = c.item.ensures.raw;
      },
      record { is_decoded = refl; is_owned = refl },
    )
