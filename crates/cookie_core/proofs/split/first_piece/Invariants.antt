use Rattle.std.proofs.Common.{◌≡◌, IfSome}
use Rattle.cookie_core.specs.Header.{header_texts}
use Rattle.cookie_core.specs.Spans.{StandsIn, span_text}
use Rattle.cookie_core.specs.SplitCode.{texts_in}
use Rattle.cookie_core.proofs.SpanLemmas.{left_length}
use Rattle.cookie_core.proofs.split.first_piece.Given as goal

abbrev pub invariant-loop-left : goal.invariant-loop-left
invariant-loop-left l = record {
  texts : texts_in l.fn.text l.left ≡ header_texts (span_text l.fn.text l.fn.rest);
  fits : IfSome l.left (StandsIn l.fn.text);
}

abbrev pub decreases-loop-left : goal.decreases-loop-left
decreases-loop-left l = left_length l.fn.text l.left
