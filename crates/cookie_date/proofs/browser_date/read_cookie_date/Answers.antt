use Rattle.std.proofs.Common.{option_and_then, sym, ap, ◌∙◌}
use Rattle.cookie_date.specs.CookieDate.{cookie_date_of, date_of_found, found_fields}
use Rattle.cookie_date.specs.Productions.{IsGrammar}
use Rattle.cookie_date.proofs.ProductionLemmas.{time_in-is, day_in-is, year_in-is}
use Rattle.cookie_date.proofs.TokenPrintLemmas.{cookie_date_back}
use Rattle.cookie_date.proofs.browser_date.read_cookie_date.Goals as goal

grammar_is : IsGrammar
grammar_is = record { time = time_in-is; day = day_in-is; year = year_in-is }

pub returns-in_err-fields-clause-value : goal.returns-in_err-fields-clause-value
unfolding cookie_date_of
returns-in_err-fields-clause-value c =
    let none = ap found_fields (sym c.found_in.ensures.value) ∙ sym c.fields.ensures.value ∙ c.in_err-fields.was in
    c.from_residual.ensures ∙ sym (ap (option_and_then date_of_found) none)

pub returns-in_err-fields-clause-grammar : goal.returns-in_err-fields-clause-grammar
returns-in_err-fields-clause-grammar c = grammar_is

pub returns-in_err-fields-clause-printed : goal.returns-in_err-fields-clause-printed
returns-in_err-fields-clause-printed c = cookie_date_back c.args.text.now _ (returns-in_err-fields-clause-value c)

pub returns-clause-value : goal.returns-clause-value
unfolding cookie_date_of
returns-clause-value c =
    let some = ap found_fields (sym c.found_in.ensures.value) ∙ sym c.fields.ensures.value ∙ c.in_ok-fields.was in
    c.date_from_1601.ensures ∙ sym (ap (option_and_then date_of_found) some)

pub returns-clause-grammar : goal.returns-clause-grammar
returns-clause-grammar c = grammar_is

pub returns-clause-printed : goal.returns-clause-printed
returns-clause-printed c = cookie_date_back c.args.text.now _ (returns-clause-value c)
