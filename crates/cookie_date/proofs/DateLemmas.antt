-- The fields that are read of a text, and the date-time that they stand for. A text has one date-time at most.
use Rattle.std.proofs.Common.{◌≡◌, ℕ, ◌↔◌, List, Option, Some, None, refl, sym, ap, ◌∙◌, subst, arith, ℤ, pos, inl, inr, IsSome, IfSome}
use Rattle.std.proofs.lemmas.Bool.{false≢true}
use Rattle.std.proofs.lemmas.Option.{same_Some, none-some}
use Rattle.jiff.specs.Types.{DateTime}
use Rattle.jiff.specs.Words.{epoch_day, time_nanos, IsYear, IsDate}
use Rattle.jiff.proofs.Family.{same_date, same_time}
use Rattle.jiff.proofs.SpanFacts.{signed_arith}
use Rattle.cookie_date.specs.declared.fields.Fields.{Fields}
use Rattle.cookie_date.specs.Text.{clock_text}
use Rattle.cookie_date.specs.Forms.{full_year, IsWritten, IsDateText, ReadsAsDate}
use Rattle.cookie_date.specs.Fields.{Exists, HasFields}
use Rattle.cookie_date.specs.Calendar.{date_at, time_at}
use Rattle.cookie_date.specs.Reader.{read_fields}
use Rattle.cookie_date.specs.Moments.{date_of}
use Rattle.cookie_date.proofs.OptionLemmas.{through}
use Rattle.cookie_date.proofs.YearLemmas.{year_range}
use Rattle.cookie_date.proofs.FormLemmas.{Fits, fields_sound, fields_complete}
use Rattle.cookie_date.proofs.CalendarLemmas.{day_bound, date_at-found, date_at-parts, time_at-found, time_at-parts}

-- a date-time is known by its parts
pub same_parts_date : (a b : DateTime) → a.date.year ≡ b.date.year → a.date.month ≡ b.date.month → a.date.day ≡ b.date.day
    → a.time.hour ≡ b.time.hour → a.time.minute ≡ b.time.minute → a.time.second ≡ b.time.second → a.time.subsec_nanosecond ≡ b.time.subsec_nanosecond → a ≡ b
same_parts_date a b y m d h i s n =
    let day : epoch_day a.date ≡ epoch_day b.date = rw (y, m, d) refl in
    let time : time_nanos a.time ≡ time_nanos b.time = rw (h, i, s, n) refl in
    λ k. record { date = same_date a.date b.date day k; time = same_time a.time b.time time k }

-- the fields that the text of a date-time shows, for a year that is written
abbrev pub shown_fields : ℤ → DateTime → Fields
shown_fields year d = record { year = year; month = d.date.month; day = d.date.day; hour = d.time.hour; minute = d.time.minute; second = d.time.second }

-- what is read is a text of the date-time that the fields stand for
pub read_is_text : (text : List ℕ) (f : Fields) (d : DateTime) → read_fields text ≡ Some f → HasFields f d → IsDateText text d
read_is_text text f d read has =
    let shows = fields_sound text f read in
    (f.year, rw (has.1, has.2, has.3, has.4, has.5) shows.0, has.0, has.6)

written_year : (text : List ℕ) (year : ℤ) (month day : ℕ) (clock : List ℕ) → IsWritten text year month day clock → IsYear year
written_year text year month day clock (inl (lead, shown, is, y, e)) = year_range shown year y
written_year text year month day clock (inr (inl (lead, short, is, small, y, e))) = omega (arith, signed_arith, y, small)
written_year text year month day clock (inr (inr (inl (lead, shown, padded, is, y, d, e)))) = year_range shown year y
written_year text year month day clock (inr (inr (inr (lead, shown, is, y, e)))) = year_range shown year y

-- a text of a date-time is read as its fields, and they stand for that date-time alone
pub text_is_read : (text : List ℕ) (d : DateTime) (t : IsDateText text d) → (read_fields text ≡ Some (shown_fields t.0 d)) × Exists (shown_fields t.0 d)
text_is_read text d t =
    let bound = day_bound d.date.year d.date.month in
    let fits : Fits (shown_fields t.0 d) = record {
      year = written_year text t.0 d.date.month d.date.day (clock_text d.time.hour d.time.minute d.time.second) t.1;
      month = d.date.month_in;
      day = omega (arith, d.date.day_in);
      clock = (omega (arith, d.time.hour_in), omega (arith, d.time.minute_in), omega (arith, d.time.second_in));
    } in
    let date : IsDate d.date.year (pos d.date.month) (pos d.date.day) = (d.date.year_in, omega (arith, signed_arith, d.date.month_in), omega (arith, signed_arith, d.date.day_in)) in
    (fields_complete text (shown_fields t.0 d) fits t.1, (subst (λ y. IsDate y (pos d.date.month) (pos d.date.day)) t.2 date, d.time.hour_in, d.time.minute_in, d.time.second_in))

-- fields stand for one date-time at most
pub one_date : (f : Fields) (a b : DateTime) → HasFields f a → HasFields f b → a ≡ b
one_date f a b p q = same_parts_date a b (p.0 ∙ sym q.0) (p.1 ∙ sym q.1) (p.2 ∙ sym q.2) (p.3 ∙ sym q.3) (p.4 ∙ sym q.4) (p.5 ∙ sym q.5) (p.6 ∙ sym q.6)

-- a text has one date at most
pub same_text_date : (text : List ℕ) (a b : DateTime) → IsDateText text a → IsDateText text b → a ≡ b
same_text_date text a b s t =
    let same : shown_fields s.0 a ≡ shown_fields t.0 b = same_Some _ _ (sym (text_is_read text a s).0 ∙ (text_is_read text b t).0) in
    let of_b : HasFields (shown_fields t.0 b) b = (t.2, refl, refl, refl, refl, refl, t.3) in
    let of_a : HasFields (shown_fields s.0 a) a = (s.2, refl, refl, refl, refl, refl, s.3) in
    one_date (shown_fields t.0 b) a b (subst (λ f. HasFields f a) same of_a) of_b

-- the answer, where fields were read
pub exact_some : (text : List ℕ) (f : Fields) (o : Option DateTime) → read_fields text ≡ Some f → IsSome o ↔ Exists f → IfSome o (HasFields f) → (d : DateTime) → (o ≡ Some d) ↔ IsDateText text d
exact_some text f o read exists value d = (λ e. read_is_text text f d read (subst (λ p. IfSome p (HasFields f)) e value), λ t. back o exists value t)
  where
    back : (o : Option DateTime) → IsSome o ↔ Exists f → IfSome o (HasFields f) → IsDateText text d → o ≡ Some d
    back o exists value t =
        let (shown, there) = text_is_read text d t in
        let same : shown_fields t.0 d ≡ f = same_Some _ _ (sym shown ∙ read) in
        let of_d : HasFields f d = subst (λ g. HasFields g d) same (t.2, refl, refl, refl, refl, refl, t.3) in
        by_variant o (exists.1 (subst Exists same there)) value of_d
      where
        by_variant : (o : Option DateTime) → IsSome o → IfSome o (HasFields f) → HasFields f d → o ≡ Some d
        by_variant None some value has = absurd (false≢true some)
        by_variant (Some e) some value has = ap Some (one_date f e d value has)

-- the answer, where no fields were read
pub exact_none : (text : List ℕ) (o : Option DateTime) → read_fields text ≡ None → o ≡ None → (d : DateTime) → (o ≡ Some d) ↔ IsDateText text d
exact_none text o read is d = (λ e. absurd (none-some _ (sym is ∙ e)), λ t. absurd (none-some _ (sym read ∙ (text_is_read text d t).0)))

-- a text has one answer
pub same_date_of : (text : List ℕ) (a b : Option DateTime) → ReadsAsDate text a → ReadsAsDate text b → a ≡ b
same_date_of text None None of_a of_b = refl
same_date_of text None (Some d) of_a of_b = (of_a d).1 ((of_b d).0 refl)
same_date_of text (Some d) b of_a of_b = sym ((of_b d).1 ((of_a d).0 refl))

-- where `date_of` gives a date-time, the text stands for it
date_of-sound : (text : List ℕ) (d : DateTime) → date_of text ≡ Some d → IsDateText text d
unfolding date_of
date_of-sound text d e₀ =
    let (f, read, e₁) = through _ (read_fields text) d e₀ in
    let (date, on, e₂) = through _ (date_at (full_year f.year) f.month f.day) d e₁ in
    let (time, at, e₃) = through _ (time_at f.hour f.minute f.second 0) d e₂ in
    let day = date_at-parts (full_year f.year) f.month f.day date on in
    let clock = time_at-parts f.hour f.minute f.second 0 time at in
    let has : HasFields f (record { date = date; time = time }) = (day.0, day.1, day.2, clock.0, clock.1, clock.2, clock.3) in
    read_is_text text f d read (subst (HasFields f) (same_Some _ _ e₃) has)

-- and it gives the date-time that a text stands for
date_of-complete : (text : List ℕ) (d : DateTime) → IsDateText text d → date_of text ≡ Some d
unfolding date_of
date_of-complete text d t =
    let (shown, there) = text_is_read text d t in
    let f = shown_fields t.0 d in
    let (date, on) = date_at-found (full_year f.year) f.month f.day there.0.0 d.date.month_in (omega (arith, signed_arith, there.0)) in
    let (time, at) = time_at-found f.hour f.minute f.second 0 there.1 there.2 there.3 (omega arith) in
    let day = date_at-parts (full_year f.year) f.month f.day date on in
    let clock = time_at-parts f.hour f.minute f.second 0 time at in
    let has : HasFields f (record { date = date; time = time }) = (day.0, day.1, day.2, clock.0, clock.1, clock.2, clock.3) in
    let same = one_date f (record { date = date; time = time }) d has (t.2, refl, refl, refl, refl, refl, t.3) in
    rw (shown, on, at) (ap Some same)

-- `date_of` gives the date-time that a text stands for, and that one alone
pub date_of-is : (text : List ℕ) (d : DateTime) → (date_of text ≡ Some d) ↔ IsDateText text d
date_of-is text d = (date_of-sound text d, date_of-complete text d)

-- and no other answer is exact
pub date_of-only : (text : List ℕ) (o : Option DateTime) → ReadsAsDate text o → o ≡ date_of text
date_of-only text o exact = same_date_of text o (date_of text) exact (date_of-is text)
