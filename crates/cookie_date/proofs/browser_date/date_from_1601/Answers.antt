use Rattle.std.proofs.Common.{◌≡◌, false, pos, ap, sym, ◌∙◌, arith, FitsSigned, w16}
use Rattle.std.specs.Prelude.{int_lt}
use Rattle.std.proofs.lemmas.Int.{to_z-of_z}
use Rattle.jiff.proofs.SpanFacts.{signed_arith}
use Rattle.cookie_date.specs.Forms.{full_year}
use Rattle.cookie_date.proofs.FoundLemmas.{date_of_found-is}
use Rattle.cookie_date.proofs.browser_date.date_from_1601.Goals as goal

pub returns : goal.returns
returns c =
    let full : FitsSigned w16 c.full_year.result = omega (arith, signed_arith, c.full_year.ensures.bound) in
    let fits : FitsSigned w16 c.args.fields.year = omega (arith, signed_arith, c.requires.year) in
    let year : c.full_year.result ≡ full_year c.args.fields.year = c.full_year.ensures.value ∙ ap full_year (to_z-of_z w16 c.args.fields.year fits) in
    let late : int_lt (full_year c.args.fields.year) (pos 1601) ≡ false = ap (λ y. int_lt y (pos 1601)) (sym (to_z-of_z w16 c.full_year.result full ∙ year)) ∙ c.if-full_year-lt-FIRST_YEAR.false in
    date_of_found-is c.args.fields c.date_of_fields.result late c.date_of_fields.ensures.succeeds c.date_of_fields.ensures.value
