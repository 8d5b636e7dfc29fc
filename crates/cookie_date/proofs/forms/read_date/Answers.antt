use Rattle.std.proofs.Common.{arith, sym, ap, ◌∙◌}
use Rattle.cookie_date.specs.Reader.{read_fields}
use Rattle.cookie_date.proofs.FormLemmas.{fields_sound}
use Rattle.cookie_date.proofs.DateLemmas.{exact_some, exact_none, same_text_date, date_of-only}
use Rattle.cookie_date.proofs.PrintLemmas.{printed_is_read}
use Rattle.cookie_date.proofs.forms.read_date.Goals as goal

pub date_of_fields-requires-clause-year : goal.date_of_fields-requires-clause-year
date_of_fields-requires-clause-year c = (fields_sound _ _ (sym c.read_fields.ensures ∙ c.in_ok-fields.was)).1.year

pub date_of_fields-requires-clause-two_digits : goal.date_of_fields-requires-clause-two_digits
date_of_fields-requires-clause-two_digits c =
    let fits = (fields_sound _ _ (sym c.read_fields.ensures ∙ c.in_ok-fields.was)).1 in
    (omega (arith, fits.month), fits.day, fits.clock.0, fits.clock.1, fits.clock.2)

pub returns-in_err-fields-clause-exact : goal.returns-in_err-fields-clause-exact
returns-in_err-fields-clause-exact c =
    let read = ap read_fields (sym c.as_bytes.ensures.value) ∙ sym c.read_fields.ensures ∙ c.in_err-fields.was in
    exact_none c.args.text.now _ read c.from_residual.ensures

pub returns-in_err-fields-clause-value : goal.returns-in_err-fields-clause-value
returns-in_err-fields-clause-value c = date_of-only c.args.text.now _ (returns-in_err-fields-clause-exact c)

pub returns-in_err-fields-clause-unique : goal.returns-in_err-fields-clause-unique
returns-in_err-fields-clause-unique c a b = same_text_date _ a b

pub returns-in_err-fields-clause-printed : goal.returns-in_err-fields-clause-printed
returns-in_err-fields-clause-printed c =
    let read = ap read_fields (sym c.as_bytes.ensures.value) ∙ sym c.read_fields.ensures ∙ c.in_err-fields.was in
    printed_is_read c.args.text.now _ (exact_none c.args.text.now _ read c.from_residual.ensures)

pub returns-clause-exact : goal.returns-clause-exact
returns-clause-exact c =
    let read = ap read_fields (sym c.as_bytes.ensures.value) ∙ sym c.read_fields.ensures ∙ c.in_ok-fields.was in
    exact_some c.args.text.now c.in_ok-fields.fields _ read c.date_of_fields.ensures.succeeds c.date_of_fields.ensures.value

pub returns-clause-value : goal.returns-clause-value
returns-clause-value c = date_of-only c.args.text.now _ (returns-clause-exact c)

pub returns-clause-unique : goal.returns-clause-unique
returns-clause-unique c a b = same_text_date _ a b

pub returns-clause-printed : goal.returns-clause-printed
returns-clause-printed c =
    let read = ap read_fields (sym c.as_bytes.ensures.value) ∙ sym c.read_fields.ensures ∙ c.in_ok-fields.was in
    printed_is_read c.args.text.now _ (exact_some c.args.text.now c.in_ok-fields.fields _ read c.date_of_fields.ensures.succeeds c.date_of_fields.ensures.value)
