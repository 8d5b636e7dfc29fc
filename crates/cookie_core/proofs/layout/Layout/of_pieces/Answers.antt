use Rattle.std.proofs.Common.{◌≡◌, ◌==◌, List, [], ℕ, Some, None, false, length, option_map, refl, sym, ap, subst, ◌∙◌, arith}
use Rattle.std.proofs.lemmas.Bool.{false≢true}
use Rattle.std.proofs.lemmas.Bool.Decides.{nat_tests}
use Rattle.std.proofs.lemmas.List.{nil_from_length}
use Rattle.cookie_core.specs.Layout.{attributes_of}
use Rattle.cookie_core.specs.Parts.{part_text, IsCut, IsPartOf}
use Rattle.cookie_core.specs.Pieces.{offset_of}
use Rattle.cookie_core.specs.Walk.{HasRead}
use Rattle.cookie_core.proofs.ReadingLemmas.{Reads-no_pair, Reads-empty_name, Reads-record}
use Rattle.cookie_core.proofs.OffsetLemmas.{offset_of-front}
use Rattle.cookie_core.proofs.SpanLemmas.{rest-part, StandsIn-part, span_text-part}
use Rattle.cookie_core.proofs.layout.Layout.of_pieces.Goals as goal

pub returns-in_default-clause-reads : goal.returns-in_default-clause-reads
returns-in_default-clause-reads c t e =
    let same = rw c.in_default.is at c.cut.ensures.cut in
    Reads-no_pair t (part_text c.args.first) _ e c.requires.apart (rw (← same) c.cut.ensures.before) false

pub returns-then-is_empty-clause-reads : goal.returns-then-is_empty-clause-reads
returns-then-is_empty-clause-reads c t e =
    let none : length (part_text c.trim-name.result) ≡ 0 = grind (arith, nat_tests) in
    Reads-empty_name t (part_text c.args.first) _ _ e c.requires.apart (part_text c.cut.result.0, part_text c.in-Some.value, rw c.in-Some.is at c.cut.ensures.cut, c.cut.ensures.before, sym (nil_from_length _ none) ∙ c.trim-name.ensures.text, refl) false

pub read-requires : goal.read-requires
read-requires c =
    (rest-part c.args.first.whole.now c.args.later c.span_of.result c.requires.place c.span_of.ensures).1

pub returns-clause-reads : goal.returns-clause-reads
returns-clause-reads c t e =
    let whole = c.args.first.whole.now in
    let rest = rest-part whole c.args.later c.span_of.result c.requires.place c.span_of.ensures in
    let value_place : IsPartOf whole c.in-Some.value = rw c.in-Some.is at c.cut.ensures.after_place in
    let name = span_text-part whole c.trim-name.result (c.trim-name.ensures.place ∙ c.cut.ensures.place) in
    let value = span_text-part whole c.trim.result (c.trim.ensures.place ∙ value_place) in
    let some = λ (empty : part_text c.trim-name.result ≡ []). false≢true (sym c.if-is_empty.false ∙ c.is_empty.ensures ∙ ap (λ (s : List ℕ). length s == 0) (c.text.ensures ∙ empty)) in
    let read = subst (λ o. HasRead o (attributes_of whole c.read.result) None) (sym rest.0) c.read.ensures.read in
    rw (name, value) (Reads-record t (part_text c.args.first) (part_text c.trim-name.result) (part_text c.trim.result) _ _ e c.requires.apart (part_text c.cut.result.0, part_text c.in-Some.value, rw c.in-Some.is at c.cut.ensures.cut, c.cut.ensures.before, c.trim-name.ensures.text, c.trim.ensures.text) some read)

pub returns-clause-place : goal.returns-clause-place
returns-clause-place c =
    let whole = c.args.first.whole.now in
    let value_place : IsPartOf whole c.in-Some.value = rw c.in-Some.is at c.cut.ensures.after_place in
    let cut : IsCut c.args.first.span c.cut.result.0.span (Some c.in-Some.value) = rw c.in-Some.is at c.cut.ensures.spans in
    let start : c.cut.result.0.span.start ≡ 0 = cut.0 ∙ c.requires.start in
    let mark : offset_of 61 whole ≡ c.cut.result.0.span.end =
    offset_of-front 61 whole c.args.first c.cut.result.0 (part_text c.in-Some.value) refl c.cut.ensures.place c.requires.start start (rw c.in-Some.is at c.cut.ensures.cut) c.cut.ensures.before in
    record {
      name = StandsIn-part whole c.trim-name.result (c.trim-name.ensures.place ∙ c.cut.ensures.place);
      value = StandsIn-part whole c.trim.result (c.trim.ensures.place ∙ value_place);
      before = omega (arith, mark, c.trim-name.ensures.end);
      after = omega (arith, mark, cut.1, c.trim.ensures.start);
      within = omega (arith, cut.2, c.trim.ensures.end, c.requires.end);
      attributes = c.read.ensures.place;
    }

pub returns-clause-unset : goal.returns-clause-unset
returns-clause-unset c = λ none. c.read.ensures.unset (c.span_of.ensures ∙ ap (option_map (λ part. part.span)) none)
