use Rattle.std.proofs.Common.{◌≡◌, ◌<◌, ap, sym, ◌∙◌, arith, FitsSigned, w16}
use Rattle.std.proofs.lemmas.Int.{to_z-of_z, ints}
use Rattle.jiff.proofs.SpanFacts.{signed_arith}
use Rattle.cookie_date.specs.Forms.{full_year}
use Rattle.cookie_date.proofs.FieldLemmas.{exists_is}
use Rattle.cookie_date.proofs.fields.date_of_fields.Goals as goal

pub returns-clause-succeeds : goal.returns-clause-succeeds
returns-clause-succeeds c =
    let f = c.args.fields in
    let fits : FitsSigned w16 f.year = omega (arith, signed_arith, c.requires.year) in
    let year : c.full_year-year.result ≡ full_year f.year = c.full_year-year.ensures.value ∙ ap full_year (to_z-of_z w16 f.year fits) in
    let full : FitsSigned w16 c.full_year-year.result = omega (arith, signed_arith, c.full_year-year.ensures.bound) in
    let month : f.month < 100 = c.requires.two_digits.0 in
    let day : f.day < 100 = c.requires.two_digits.1 in
    let hour : f.hour < 100 = c.requires.two_digits.2 in
    let minute : f.minute < 100 = c.requires.two_digits.3 in
    let second : f.second < 100 = c.requires.two_digits.4 in
    let s = c.new.ensures.succeeds in
    let same = exists_is f _ _ _ _ _ _ (to_z-of_z w16 _ full ∙ year) (omega (arith, ints)) (omega (arith, ints)) (omega (arith, ints)) (omega (arith, ints)) (omega (arith, ints)) in
    (λ some. same.0 (s.0 (sym c.ok.ensures.variant ∙ some)), λ e. c.ok.ensures.variant ∙ s.1 (same.1 e))
