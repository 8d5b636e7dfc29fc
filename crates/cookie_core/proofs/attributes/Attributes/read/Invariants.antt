use Rattle.std.proofs.Common.{◌≡◌, None, option_map, IfSome}
use Rattle.cookie_core.specs.Layout.{attributes_of, AreIn}
use Rattle.cookie_core.specs.Settings.{no_attributes}
use Rattle.cookie_core.specs.Spans.{StandsIn, span_text}
use Rattle.cookie_core.specs.Walk.{HasRead}
use Rattle.cookie_core.proofs.SpanLemmas.{left_length}
use Rattle.cookie_core.proofs.attributes.Attributes.read.Given as goal

abbrev pub invariant-loop-rest : goal.invariant-loop-rest
invariant-loop-rest l = record {
  read : HasRead (option_map (span_text l.fn.text) l.fn.later) (attributes_of l.fn.text l.attributes) (option_map (span_text l.fn.text) l.rest);
  place : AreIn l.fn.text l.attributes;
  fits : IfSome l.rest (StandsIn l.fn.text);
  unset : l.fn.later ≡ None → (l.rest ≡ None) × (l.attributes ≡ no_attributes);
}

abbrev pub decreases-loop-rest : goal.decreases-loop-rest
decreases-loop-rest l = left_length l.fn.text l.rest
