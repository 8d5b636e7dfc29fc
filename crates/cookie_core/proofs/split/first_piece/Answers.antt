use Rattle.std.proofs.Common.{◌==◌, ℕ, List, ◌∷◌, length, sym, ap, subst, ◌∙◌}
use Rattle.cookie_core.specs.Parts.{part_text}
use Rattle.cookie_core.specs.Pieces.{Lacks}
use Rattle.cookie_core.specs.SplitCode.{texts_in}
use Rattle.cookie_core.proofs.ByteLemmas.{Lacks-trimmed}
use Rattle.cookie_core.proofs.PieceLemmas.{header_texts-blank, header_texts-filled}
use Rattle.cookie_core.proofs.SpanLemmas.{after-cut, StandsIn-part, span_text-part, left_length-cut}
use Rattle.cookie_core.proofs.split.first_piece.Goals as goal

pub at-requires : goal.at-requires
at-requires c = rw c.in-Some.is at c.loop-left.invariant.fits

pub returns-then-not-is_empty : goal.returns-then-not-is_empty
returns-then-not-is_empty c =
    let whole = c.trim-piece.ensures.place ∙ c.cut.ensures.place ∙ c.at.ensures.place in
    let (text, stands) = after-cut c.args.text.now c.in-Some.span c.at.result c.cut.result.0 c.cut.result.1 c.span_of-after.result c.at.ensures.place c.at.ensures.text c.cut.ensures.cut c.cut.ensures.after_place c.span_of-after.ensures in
    let left = rw c.in-Some.is at c.loop-left.invariant.texts in
    let piece = span_text-part c.args.text.now c.trim-piece.result whole ∙ c.trim-piece.ensures.text in (
      StandsIn-part c.args.text.now c.trim-piece.result whole,
      stands,
      sym left
          ∙ header_texts-filled _ (part_text c.cut.result.0) _ text c.cut.ensures.before
          (ap (λ (t : List ℕ). length t == 0) (sym c.trim-piece.ensures.text ∙ sym c.text.ensures) ∙ sym c.is_empty.ensures ∙ c.if-not-is_empty.true)
          ∙ ap (λ t. t ∷ texts_in c.args.text.now c.span_of-after.result) (sym piece),
      subst (Lacks 59) (sym (span_text-part c.args.text.now c.trim-piece.result whole)) (Lacks-trimmed 59 (part_text c.cut.result.0) (part_text c.trim-piece.result) c.trim-piece.ensures.trimmed c.cut.ensures.before),
    )

pub loop-left-preserved : goal.loop-left-preserved
loop-left-preserved c =
    let (text, stands) = after-cut c.args.text.now c.in-Some.span c.at.result c.cut.result.0 c.cut.result.1 c.span_of-after.result c.at.ensures.place c.at.ensures.text c.cut.ensures.cut c.cut.ensures.after_place c.span_of-after.ensures in
    let left = rw c.in-Some.is at c.loop-left.invariant.texts in
    record {
      texts = sym (header_texts-blank _ (part_text c.cut.result.0) _ text c.cut.ensures.before
          (ap (λ (t : List ℕ). length t == 0) (sym c.trim-piece.ensures.text ∙ sym c.text.ensures) ∙ sym c.is_empty.ensures ∙ c.if-not-is_empty.false)) ∙ left;
      fits = stands;
    }

pub loop-left-smaller : goal.loop-left-smaller
loop-left-smaller c =
    let (text, stands) = after-cut c.args.text.now c.in-Some.span c.at.result c.cut.result.0 c.cut.result.1 c.span_of-after.result c.at.ensures.place c.at.ensures.text c.cut.ensures.cut c.cut.ensures.after_place c.span_of-after.ensures in
    rw c.in-Some.is (left_length-cut c.args.text.now c.in-Some.span (part_text c.cut.result.0) c.span_of-after.result text)
