use Rattle.std.proofs.Common.{◌≡◌, ◌∙◌, ap, arith, FitsSigned, w16}
use Rattle.std.proofs.Output.{has_written_of_eq}
use Rattle.std.proofs.lemmas.Int.{to_z-of_z, ints}
use Rattle.jiff.proofs.SpanFacts.{signed_arith}
use Rattle.jiff.specs.Words.{weekday_of}
use Rattle.cookie_date.specs.Names.{weekday_text}
use Rattle.cookie_date.proofs.text.DateTextDisplay.fmt.Goals as goal

pub returns-clause-writes : goal.returns-clause-writes
returns-clause-writes g c =
    let date = c.args.self.now.0.date in
    let fits : FitsSigned w16 date.year = omega (arith, signed_arith, date.year_in) in
    let day = c.weekday.ensures ∙ ap (λ d. weekday_of d.date) c.to_plain.ensures in
    let name : c.weekday_name-weekday.result.now ≡ weekday_text (weekday_of date) =
    c.weekday_name-weekday.ensures ∙ ap weekday_text (omega (arith, ints, signed_arith, c.to_monday_zero_offset.ensures.value, day)) in
    λ plain ok. has_written_of_eq _ _ _ _ _
    (rw (name, c.month_name-month.ensures, c.time.ensures, c.to_plain.ensures)
    (rw (to_z-of_z w16 date.year fits)))
    (c.write.ensures.writes plain ok)
