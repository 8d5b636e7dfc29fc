-- The date-time of what was found is the one with its fields.
use Rattle.std.proofs.Common.{◌≡◌, ◌↔◌, false, cond, option_and_then, Option, Some, None, refl, sym, ap, ◌∙◌, subst, arith, pos, IsSome, IfSome}
use Rattle.std.specs.Prelude.{int_lt}
use Rattle.std.proofs.lemmas.Bool.{false≢true, cond-false}
use Rattle.std.proofs.lemmas.Option.{same_Some}
use Rattle.jiff.specs.Types.{DateTime, Date, Time}
use Rattle.jiff.specs.Words.{IsDate}
use Rattle.jiff.proofs.SpanFacts.{signed_arith}
use Rattle.cookie_date.specs.declared.fields.Fields.{Fields}
use Rattle.cookie_date.specs.Calendar.{date_at, time_at}
use Rattle.cookie_date.specs.CookieDate.{date_of_found}
use Rattle.cookie_date.specs.Fields.{Exists, HasFields}
use Rattle.cookie_date.specs.Forms.{full_year}
use Rattle.cookie_date.proofs.CalendarLemmas.{date_at-found, date_at-parts, time_at-found, time_at-parts}
use Rattle.cookie_date.proofs.DateLemmas.{one_date}
use Rattle.cookie_date.proofs.OptionLemmas.{through}

-- a date-time's fields exist
has-exists : (f : Fields) (d : DateTime) → HasFields f d → Exists f
has-exists f d h =
    let g : Fields = record { year = f.year; month = d.date.month; day = d.date.day; hour = d.time.hour; minute = d.time.minute; second = d.time.second } in
    let same : g ≡ f = λ i. record { year = f.year; month = h.1 i; day = h.2 i; hour = h.3 i; minute = h.4 i; second = h.5 i } in
    let date : IsDate d.date.year (pos d.date.month) (pos d.date.day) = (d.date.year_in, omega (arith, signed_arith, d.date.month_in), omega (arith, signed_arith, d.date.day_in)) in
    subst Exists same (subst (λ y. IsDate y (pos d.date.month) (pos d.date.day)) h.0 date, d.time.hour_in, d.time.minute_in, d.time.second_in)

-- an answer that is exact is the one with the fields
answer-is : (f : Fields) (o : Option DateTime) → IsSome o ↔ Exists f → IfSome o (HasFields f) → (d : DateTime) → (o ≡ Some d) ↔ HasFields f d
answer-is f o exists value d = (λ e. subst (λ p. IfSome p (HasFields f)) e value, λ h. by o (exists.1 (has-exists f d h)) value h)
  where
    by : (o : Option DateTime) → IsSome o → IfSome o (HasFields f) → HasFields f d → o ≡ Some d
    by None some value h = absurd (false≢true some)
    by (Some e) some value h = ap Some (one_date f e d value h)

pub found-is : (f : Fields) → int_lt (full_year f.year) (pos 1601) ≡ false → (d : DateTime) → (date_of_found f ≡ Some d) ↔ HasFields f d
found-is f late d = (sound, complete)
  where
    sound : date_of_found f ≡ Some d → HasFields f d
    sound e₀ =
        let made : Date → Time → Option DateTime = λ date time. Some (record { date = date; time = time }) in
        let (date, on₀, e₂) = through (λ date. option_and_then (made date) (time_at f.hour f.minute f.second 0)) (cond (int_lt (full_year f.year) (pos 1601)) None (date_at (full_year f.year) f.month f.day)) d e₀ in
        let on : date_at (full_year f.year) f.month f.day ≡ Some date = sym (cond-false _ _ _ late) ∙ on₀ in
        let (time, at, e₃) = through (made date) (time_at f.hour f.minute f.second 0) d e₂ in
        let day = date_at-parts (full_year f.year) f.month f.day date on in
        let clock = time_at-parts f.hour f.minute f.second 0 time at in
        let has : HasFields f (record { date = date; time = time }) = (day.0, day.1, day.2, clock.0, clock.1, clock.2, clock.3) in
        subst (HasFields f) (same_Some _ _ e₃) has

    complete : HasFields f d → date_of_found f ≡ Some d
    complete h =
        let there = has-exists f d h in
        let (date, on) = date_at-found (full_year f.year) f.month f.day there.0.0 (omega (arith, d.date.month_in, h.1)) (omega (arith, signed_arith, there.0)) in
        let (time, at) = time_at-found f.hour f.minute f.second 0 there.1 there.2 there.3 (omega arith) in
        let day = date_at-parts (full_year f.year) f.month f.day date on in
        let clock = time_at-parts f.hour f.minute f.second 0 time at in
        let has : HasFields f (record { date = date; time = time }) = (day.0, day.1, day.2, clock.0, clock.1, clock.2, clock.3) in
        rw (late, on, at) (ap Some (one_date f (record { date = date; time = time }) d has h))

pub date_of_found-is : (f : Fields) (o : Option DateTime) → int_lt (full_year f.year) (pos 1601) ≡ false → IsSome o ↔ Exists f → IfSome o (HasFields f) → o ≡ date_of_found f
date_of_found-is f o late exists value = by o (date_of_found f) (answer-is f o exists value) (found-is f late)
  where
    by : (a b : Option DateTime) → ((d : DateTime) → (a ≡ Some d) ↔ HasFields f d) → ((d : DateTime) → (b ≡ Some d) ↔ HasFields f d) → a ≡ b
    by None None p q = refl
    by None (Some d) p q = (p d).1 ((q d).0 refl)
    by (Some d) b p q = sym ((q d).1 ((p d).0 refl))
