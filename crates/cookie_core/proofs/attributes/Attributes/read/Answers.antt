use Rattle.std.proofs.Common.{◌≡◌, ◌∷◌, [], Some, None, sym, subst, ◌∙◌}
use Rattle.cookie_core.specs.Attributes.{SetsAttributes}
use Rattle.cookie_core.specs.Parts.{part_text}
use Rattle.cookie_core.specs.Layout.{attributes_of, AreIn}
use Rattle.cookie_core.proofs.ReadingLemmas.{HasRead-none, HasRead-or}
use Rattle.cookie_core.proofs.SpanLemmas.{after-cut, left_length-cut}
use Rattle.cookie_core.proofs.attributes.Attributes.read.Goals as goal

pub at-requires : goal.at-requires
at-requires c = rw c.in-Some.is at c.loop-rest.invariant.fits

pub loop-rest-init : goal.loop-rest-init
loop-rest-init c = record {
  read = rw c.unset-attributes.ensures (HasRead-none _);
  place = rw c.unset-attributes.ensures (tt, tt);
  fits = c.requires;
  unset = λ none. (none, c.unset-attributes.ensures);
}

pub loop-rest-preserved : goal.loop-rest-preserved
loop-rest-preserved c =
    let whole = c.cut.ensures.place ∙ c.at.ensures.place in
    let (text, stands) = after-cut c.args.text.now c.in-Some.span c.at.result c.cut.result.0 c.cut.result.1 c.span_of-rest.result c.at.ensures.place c.at.ensures.text c.cut.ensures.cut c.cut.ensures.after_place c.span_of-rest.ensures in
    let sets = subst (λ t. SetsAttributes (part_text c.cut.result.0 ∷ []) (attributes_of t c.of.result)) whole c.of.ensures.sets in
    record {
      read = rw (c.update.ensures.or c.args.text.now) (HasRead-or _ _ _ _ (part_text c.cut.result.0) _ (rw c.in-Some.is at c.loop-rest.invariant.read) text c.cut.ensures.before sets);
      place = c.update.ensures.place c.args.text.now (subst (λ t. AreIn t c.of.result) whole c.of.ensures.place) c.loop-rest.invariant.place;
      fits = stands;
      unset = λ none. let clash : Some c.in-Some.span ≡ None = sym c.in-Some.is ∙ (c.loop-rest.invariant.unset none).0 in absurd cc;
    }

pub loop-rest-smaller : goal.loop-rest-smaller
loop-rest-smaller c =
    let (text, stands) = after-cut c.args.text.now c.in-Some.span c.at.result c.cut.result.0 c.cut.result.1 c.span_of-rest.result c.at.ensures.place c.at.ensures.text c.cut.ensures.cut c.cut.ensures.after_place c.span_of-rest.ensures in
    rw c.in-Some.is (left_length-cut c.args.text.now c.in-Some.span (part_text c.cut.result.0) c.span_of-rest.result text)

pub returns-clause-unset : goal.returns-clause-unset
returns-clause-unset c = λ none. (c.loop-rest.invariant.unset none).1
