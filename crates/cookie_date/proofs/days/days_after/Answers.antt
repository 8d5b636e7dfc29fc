use Rattle.std.proofs.Common.{◌≡◌, ◌+ℤ◌, arith, refl, ap, ◌∙◌}
use Rattle.std.proofs.lemmas.Bool.{false≢true}
use Rattle.jiff.specs.Words.{epoch_day}
use Rattle.jiff.proofs.Family.{epoch_day_range}
use Rattle.jiff.proofs.SpanFacts.{signed_arith}
use Rattle.cookie_date.proofs.DayLemmas.{days_later-only}
use Rattle.cookie_date.proofs.days.days_after.Goals as goal

pub returns-in-Ok-clause-later : goal.returns-in-Ok-clause-later
returns-in-Ok-clause-later c =
    let day = ap epoch_day (c.to_plain.ensures ∙ c.date.ensures) in
    let fits = c.in-Ok.ensures.succeeds.0 refl in
    let on_day : epoch_day c.in-Ok.date ≡ epoch_day c.args.moment.date +ℤ c.args.days = omega (arith, signed_arith, day, c.in-Ok.ensures.value) in
    record {
      within = λ h. (ap epoch_day (c.to_datetime.ensures.date ∙ c.from_plain.ensures) ∙ on_day, c.to_datetime.ensures.time ∙ c.time.ensures);
      above = λ h. absurd (omega (arith, signed_arith, day));
      below = λ h. absurd (omega (arith, signed_arith, day));
    }

pub returns-in-Err-clause-later : goal.returns-in-Err-clause-later
returns-in-Err-clause-later c =
    let start = epoch_day_range c.args.moment.date in
    let day = ap epoch_day (c.to_plain.ensures ∙ c.date.ensures) in
    record {
      within = λ h. absurd (false≢true (c.in-Err.ensures.succeeds.1 (omega (arith, signed_arith, day, h))));
      above = λ h. absurd (omega (arith, signed_arith));
      below = λ h. ((refl, refl, refl), refl);
    }

pub returns-in-Err-2-clause-later : goal.returns-in-Err-2-clause-later
returns-in-Err-2-clause-later c =
    let start = epoch_day_range c.args.moment.date in
    let day = ap epoch_day (c.to_plain.ensures ∙ c.date.ensures) in
    record {
      within = λ h. absurd (false≢true (c.in-Err.ensures.succeeds.1 (omega (arith, signed_arith, day, h))));
      above = λ h. ((refl, refl, refl), refl);
      below = λ h. absurd (omega (arith, signed_arith));
    }

pub returns-in-Ok-clause-value : goal.returns-in-Ok-clause-value
returns-in-Ok-clause-value c = days_later-only _ _ _ (returns-in-Ok-clause-later c)

pub returns-in-Err-clause-value : goal.returns-in-Err-clause-value
returns-in-Err-clause-value c = days_later-only _ _ _ (returns-in-Err-clause-later c)

pub returns-in-Err-2-clause-value : goal.returns-in-Err-2-clause-value
returns-in-Err-2-clause-value c = days_later-only _ _ _ (returns-in-Err-2-clause-later c)
