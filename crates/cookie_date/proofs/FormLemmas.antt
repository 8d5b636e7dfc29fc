-- `read_fields` reads the four forms, and nothing else.
use Rattle.std.proofs.Common.{◌≡◌, ℕ, zero, suc, ◌+◌, ◌/◌, ◌%◌, ◌<◌, ◌≤◌, ◌==◌, ◌⊎◌, Bool, true, false, cond, List, [], ◌∷◌, ◌++◌, length, get_or, Some, None, option_and_then, refl, sym, ap, ◌∙◌, subst, arith, inl, inr, ℤ, pos, append_assoc, append-nil, eqb-true, codes}
use Rattle.std.proofs.lemmas.Bool.Decides.{nat_tests}
use Rattle.std.proofs.lemmas.List.{nil_from_length}
use Rattle.std.proofs.lemmas.Option.{same_Some}
use Rattle.std.proofs.lemmas.Str.{digit_value_digit}
use Rattle.std.specs.Str.Parse.{digits_value}
use Rattle.std.specs.Int.{IsInRange, is_in_range}
use Rattle.jiff.proofs.SpanFacts.{signed_arith}
use Rattle.jiff.specs.Words.{IsYear}
use Rattle.cookie_date.specs.declared.fields.Fields.{Fields}
use Rattle.cookie_date.specs.Names.{month_text, weekday_text, long_weekday_text}
use Rattle.cookie_date.specs.Text.{two_digits, clock_text}
use Rattle.cookie_date.specs.Forms.{IsYearText, IsDayText, IsLead, day_first, month_first, IsWritten}
use Rattle.cookie_date.specs.Reader.{Front, fields_of, read_tag, read_two_digits, read_name, read_year, read_clock, read_gmt, read_day_month, read_padded_day, weekday_rest, read_day_first, read_short_year, read_month_first, read_either_mark, read_unnamed, read_named, named_or, read_fields}
use Rattle.cookie_date.proofs.OptionLemmas.{through, passed}
use Rattle.cookie_date.proofs.ReaderLemmas.{through_tag, AreShort, zone, two_digits-read, two_digits-front, padded_day-read, padded_day-front, clock-read, clock-front, gmt-read, gmt-front, name-front, month-read, day_month-read, day_month-front}
use Rattle.cookie_date.proofs.YearLemmas.{year-read, year-front, year_range}

-- the fields are such as a text can show
pub record Fits (f : Fields) : Type 0 where
  pub year : IsYear f.year
  pub month : IsInRange 1 12 f.month
  pub day : f.day < 100
  pub clock : AreShort (f.hour, f.minute, f.second)

-- the time of day that the fields show
abbrev time_of : Fields → List ℕ
time_of f = clock_text f.hour f.minute f.second

-- the text shows the fields in form 1 or 4, behind the weekday
abbrev ShowsDayFirst : List ℕ → List ℕ → Fields → Type 0
ShowsDayFirst mark text f = (shown : List ℕ) × IsYearText shown f.year × (text ≡ day_first mark f.day f.month shown (time_of f)) × Fits f

-- the same, of form 2
abbrev ShowsShortYear : List ℕ → Fields → Type 0
ShowsShortYear text f = (short : ℕ) × (short < 100) × (f.year ≡ pos short) × (text ≡ day_first (codes "-") f.day f.month (two_digits short) (time_of f)) × Fits f

-- the same, of form 3
abbrev ShowsMonthFirst : List ℕ → Fields → Type 0
ShowsMonthFirst text f = (shown : List ℕ) × (padded : List ℕ) × IsYearText shown f.year × IsDayText padded f.day × (text ≡ month_first f.month padded (time_of f) shown) × Fits f

day_first-front : (mark text : List ℕ) (f : Fields) → read_day_first mark text ≡ Some f → ShowsDayFirst mark text f
unfolding read_day_first
day_first-front mark text f e₀ =
    let (date, got_date, e₁) = through _ (read_day_month mark text) f e₀ in
    let (year, got_year, e₂) = through _ (read_year date.1) f e₁ in
    let (clock, got_clock, e₃) = through _ (read_gmt year.1) f e₂ in
    let (d, day_in, month_in) = day_month-front mark text date got_date in
    let (shown, y, is_year) = year-front date.1 year got_year in
    let (t, clock_in) = gmt-front year.1 clock got_clock in
    let whole : text ≡ day_first mark date.0.0 date.0.1 shown (clock_text clock.0 clock.1 clock.2) = cc in
    let fits : Fits (fields_of year.0 date.0.1 date.0.0 clock) = record { year = year_range shown year.0 is_year; month = month_in; day = day_in; clock = clock_in } in
    subst (ShowsDayFirst mark text) (same_Some _ _ e₃) (shown, is_year, whole, fits)

short_year-front : (text : List ℕ) (f : Fields) → read_short_year text ≡ Some f → ShowsShortYear text f
unfolding read_short_year
short_year-front text f e₀ =
    let (date, got_date, e₁) = through _ (read_day_month (45 ∷ []) text) f e₀ in
    let (year, got_year, e₂) = through _ (read_two_digits date.1) f e₁ in
    let (clock, got_clock, e₃) = through _ (read_gmt year.1) f e₂ in
    let (d, day_in, month_in) = day_month-front (45 ∷ []) text date got_date in
    let (y, year_in) = two_digits-front date.1 year got_year in
    let (t, clock_in) = gmt-front year.1 clock got_clock in
    let whole : text ≡ day_first (45 ∷ []) date.0.0 date.0.1 (two_digits year.0) (clock_text clock.0 clock.1 clock.2) = cc in
    let fits : Fits (fields_of (pos year.0) date.0.1 date.0.0 clock) = record { year = omega (arith, signed_arith); month = month_in; day = day_in; clock = clock_in } in
    subst (ShowsShortYear text) (same_Some _ _ e₃) (year.0, year_in, refl, whole, fits)

month_first-front : (text : List ℕ) (f : Fields) → read_month_first text ≡ Some f → ShowsMonthFirst text f
unfolding read_month_first
month_first-front text f e₀ =
    let (month, got_month, e₁) = through _ (read_name month_text 12 1 text) f e₀ in
    let (day, led_day, e₂) = through _ (option_and_then read_padded_day (read_tag (32 ∷ []) month.1)) f e₁ in
    let (clock, led_clock, e₃) = through _ (option_and_then read_clock (read_tag (32 ∷ []) day.1)) f e₂ in
    let (year, led_year, e₄) = through _ (option_and_then read_year (read_tag (32 ∷ []) clock.1)) f e₃ in
    let (at_day, blank_day, got_day) = through_tag (32 ∷ []) month.1 read_padded_day day led_day in
    let (at_clock, blank_clock, got_clock) = through_tag (32 ∷ []) day.1 read_clock clock led_clock in
    let (at_year, blank_year, got_year) = through_tag (32 ∷ []) clock.1 read_year year led_year in
    let (empty, is) = passed (length year.1 == 0) (Some (fields_of year.0 month.0 day.0 clock.0)) f e₄ in
    let (from, to, m) = name-front month_text 12 1 text month got_month in
    let (padded, d, day_in, is_day) = padded_day-front at_day day got_day in
    let (t, clock_in) = clock-front at_clock clock got_clock in
    let (shown, y, is_year) = year-front at_year year got_year in
    let last : at_year ≡ shown = y ∙ ap (λ rest. shown ++ rest) (nil_from_length year.1 (eqb-true (length year.1) 0 empty)) ∙ append-nil shown in
    let from_year = blank_year ∙ ap (λ s. 32 ∷ s) last in
    let from_clock = blank_clock ∙ ap (λ s. 32 ∷ s) (t ∙ ap (λ s. clock_text clock.0.0 clock.0.1 clock.0.2 ++ s) from_year) in
    let from_day = blank_day ∙ ap (λ s. 32 ∷ s) (d ∙ ap (λ s. padded ++ s) from_clock) in
    let whole = m ∙ ap (λ s. month_text month.0 ++ s) from_day in
    let fits : Fits (fields_of year.0 month.0 day.0 clock.0) = record { year = year_range shown year.0 is_year; month = (from, omega arith); day = day_in; clock = clock_in } in
    subst (ShowsMonthFirst text) (same_Some _ _ is) (shown, padded, is_year, is_day, whole, fits)

module _ (f : Fields) (h : Fits f) where
  day_first-read : (mark shown : List ℕ) → IsYearText shown f.year → read_day_first mark (day_first mark f.day f.month shown (time_of f)) ≡ Some f
  unfolding read_day_first
  day_first-read mark shown year =
      let behind : List ℕ = codes " " ++ (time_of f ++ zone) in
      rw (
        day_month-read mark (shown ++ behind) f.day f.month h.day h.month,
        year-read shown behind f.year year refl,
        gmt-read (f.hour, f.minute, f.second) h.clock,
      ) refl

  short_year-read : (short : ℕ) → short < 100 → f.year ≡ pos short → read_short_year (day_first (45 ∷ []) f.day f.month (two_digits short) (time_of f)) ≡ Some f
  unfolding read_short_year
  short_year-read short small year =
      let behind : List ℕ = codes " " ++ (time_of f ++ zone) in
      rw (
        day_month-read (45 ∷ []) (two_digits short ++ behind) f.day f.month h.day h.month,
        two_digits-read short behind small,
        gmt-read (f.hour, f.minute, f.second) h.clock,
        ← year,
      ) refl

  month_first-read : (padded shown : List ℕ) → IsDayText padded f.day → IsYearText shown f.year → read_month_first (month_first f.month padded (time_of f) shown) ≡ Some f
  unfolding read_month_first
  month_first-read padded shown day year =
      let last : read_year shown ≡ Some (f.year, []) = rw (append-nil shown) at (year-read shown [] f.year year refl) in
      rw (
        month-read f.month (codes " " ++ (padded ++ (codes " " ++ (time_of f ++ (codes " " ++ shown))))) h.month,
        padded_day-read padded (codes " " ++ (time_of f ++ (codes " " ++ shown))) f.day day h.day,
        clock-read (f.hour, f.minute, f.second) (codes " " ++ shown) h.clock,
        last,
      ) refl

-- which reader a text comes to, by how it begins

either_spaced : (d : ℕ) (rest : List ℕ) → read_either_mark (two_digits d ++ 32 ∷ rest) ≡ read_day_first (32 ∷ []) (two_digits d ++ 32 ∷ rest)
unfolding read_either_mark
either_spaced d rest = refl

either_dashed : (d : ℕ) (rest : List ℕ) → read_either_mark (two_digits d ++ 45 ∷ rest) ≡ read_day_first (45 ∷ []) (two_digits d ++ 45 ∷ rest)
unfolding read_either_mark
either_dashed d rest = refl

begins_digit : (c : ℕ) (rest : List ℕ) → 48 ≤ c → c ≤ 57 → read_fields (c ∷ rest) ≡ read_either_mark (c ∷ rest)
unfolding read_fields read_name read_unnamed
begins_digit c rest low high =
    let m : (c == 77) ≡ false = grind (arith, nat_tests) in
    let t : (c == 84) ≡ false = grind (arith, nat_tests) in
    let w : (c == 87) ≡ false = grind (arith, nat_tests) in
    let f : (c == 70) ≡ false = grind (arith, nat_tests) in
    let s : (c == 83) ≡ false = grind (arith, nat_tests) in
    let digit : is_in_range 48 57 c ≡ true = grind (arith, nat_tests) in
    rw (m, t, w, f, s, digit) refl

begins_day : (d : ℕ) (rest : List ℕ) → d < 100 → read_fields (two_digits d ++ rest) ≡ read_either_mark (two_digits d ++ rest)
begins_day d rest h = begins_digit (48 + d / 10) ((48 + d % 10) ∷ rest) (omega arith) (omega arith)

begins_month : (m : ℕ) (rest : List ℕ) → IsInRange 1 12 m → read_fields (month_text m ++ rest) ≡ read_month_first (month_text m ++ rest)
unfolding read_fields read_name read_unnamed
begins_month (suc zero) rest h = refl
begins_month (suc (suc zero)) rest h = refl
begins_month (suc (suc (suc zero))) rest h = refl
begins_month (suc (suc (suc (suc zero)))) rest h = refl
begins_month (suc (suc (suc (suc (suc zero))))) rest h = refl
begins_month (suc (suc (suc (suc (suc (suc zero)))))) rest h = refl
begins_month (suc (suc (suc (suc (suc (suc (suc zero))))))) rest h = refl
begins_month (suc (suc (suc (suc (suc (suc (suc (suc zero)))))))) rest h = refl
begins_month (suc (suc (suc (suc (suc (suc (suc (suc (suc zero))))))))) rest h = refl
begins_month (suc (suc (suc (suc (suc (suc (suc (suc (suc (suc zero)))))))))) rest h = refl
begins_month (suc (suc (suc (suc (suc (suc (suc (suc (suc (suc (suc zero))))))))))) rest h = refl
begins_month (suc (suc (suc (suc (suc (suc (suc (suc (suc (suc (suc (suc zero)))))))))))) rest h = refl
begins_month zero rest h = absurd (omega arith)
begins_month (suc (suc (suc (suc (suc (suc (suc (suc (suc (suc (suc (suc (suc k))))))))))))) rest h = absurd (omega arith)

after_comma : (n : ℕ) (rest : List ℕ) → n < 7 → read_fields ((weekday_text n ++ 44 ∷ 32 ∷ []) ++ rest) ≡ read_either_mark rest
unfolding read_fields read_name read_named
after_comma zero rest h = refl
after_comma (suc zero) rest h = refl
after_comma (suc (suc zero)) rest h = refl
after_comma (suc (suc (suc zero))) rest h = refl
after_comma (suc (suc (suc (suc zero)))) rest h = refl
after_comma (suc (suc (suc (suc (suc zero))))) rest h = refl
after_comma (suc (suc (suc (suc (suc (suc zero)))))) rest h = refl
after_comma (suc (suc (suc (suc (suc (suc (suc k))))))) rest h = absurd (omega arith)

after_space : (n : ℕ) (rest : List ℕ) → n < 7 → read_fields ((weekday_text n ++ 32 ∷ []) ++ rest) ≡ read_month_first rest
unfolding read_fields read_name read_named
after_space zero rest h = refl
after_space (suc zero) rest h = refl
after_space (suc (suc zero)) rest h = refl
after_space (suc (suc (suc zero))) rest h = refl
after_space (suc (suc (suc (suc zero)))) rest h = refl
after_space (suc (suc (suc (suc (suc zero))))) rest h = refl
after_space (suc (suc (suc (suc (suc (suc zero)))))) rest h = refl
after_space (suc (suc (suc (suc (suc (suc (suc k))))))) rest h = absurd (omega arith)

after_long : (n : ℕ) (rest : List ℕ) → n < 7 → read_fields ((long_weekday_text n ++ 44 ∷ 32 ∷ []) ++ rest) ≡ read_short_year rest
unfolding read_fields read_name read_named
after_long zero rest h = refl
after_long (suc zero) rest h = refl
after_long (suc (suc zero)) rest h = refl
after_long (suc (suc (suc zero))) rest h = refl
after_long (suc (suc (suc (suc zero)))) rest h = refl
after_long (suc (suc (suc (suc (suc zero))))) rest h = refl
after_long (suc (suc (suc (suc (suc (suc zero)))))) rest h = refl
after_long (suc (suc (suc (suc (suc (suc (suc k))))))) rest h = absurd (omega arith)

-- two digits of form 2 are a year of form 4
short_is_year : (short : ℕ) (year : ℤ) → short < 100 → year ≡ pos short → IsYearText (two_digits short) year
short_is_year short year small is =
    let high = digit_value_digit (48 + short / 10) (omega arith) in
    let low = digit_value_digit (48 + short % 10) (omega arith) in
    let value : digits_value 10 (two_digits short) ≡ short = omega arith in
    ([], two_digits short, refl, (omega arith, (omega arith, (omega arith, tt))), omega arith, inl (refl, is ∙ ap pos (sym value)))

-- a text in one of the forms is read as what it shows
pub fields_complete : (text : List ℕ) (f : Fields) → Fits f → IsWritten text f.year f.month f.day (time_of f) → read_fields text ≡ Some f
fields_complete text f h (inl (lead, shown, inl none, year, is)) =
    rw (is, none) (begins_day f.day _ h.day ∙ either_spaced f.day _ ∙ day_first-read f h (32 ∷ []) shown year)
fields_complete text f h (inl (lead, shown, inr (n, small, named), year, is)) =
    rw (is, named) (after_comma n _ small ∙ either_spaced f.day _ ∙ day_first-read f h (32 ∷ []) shown year)
fields_complete text f h (inr (inl (lead, short, inl none, fits, year, is))) =
    rw (is, none) (begins_day f.day _ h.day ∙ either_dashed f.day _ ∙ day_first-read f h (45 ∷ []) (two_digits short) (short_is_year short f.year fits year))
fields_complete text f h (inr (inl (lead, short, inr (n, small, named), fits, year, is))) =
    rw (is, named) (after_long n _ small ∙ short_year-read f h short fits year)
fields_complete text f h (inr (inr (inl (lead, shown, padded, inl none, year, day, is)))) =
    rw (is, none) (begins_month f.month _ h.month ∙ month_first-read f h padded shown day year)
fields_complete text f h (inr (inr (inl (lead, shown, padded, inr (n, small, named), year, day, is)))) =
    rw (is, named) (after_space n _ small ∙ month_first-read f h padded shown day year)
fields_complete text f h (inr (inr (inr (lead, shown, inl none, year, is)))) =
    rw (is, none) (begins_day f.day _ h.day ∙ either_dashed f.day _ ∙ day_first-read f h (45 ∷ []) shown year)
fields_complete text f h (inr (inr (inr (lead, shown, inr (n, small, named), year, is)))) =
    rw (is, named) (after_comma n _ small ∙ either_dashed f.day _ ∙ day_first-read f h (45 ∷ []) shown year)

long_name : (n : ℕ) → n < 7 → weekday_text n ++ weekday_rest n ≡ long_weekday_text n
long_name zero h = refl
long_name (suc zero) h = refl
long_name (suc (suc zero)) h = refl
long_name (suc (suc (suc zero))) h = refl
long_name (suc (suc (suc (suc zero)))) h = refl
long_name (suc (suc (suc (suc (suc zero))))) h = refl
long_name (suc (suc (suc (suc (suc (suc zero)))))) h = refl
long_name (suc (suc (suc (suc (suc (suc (suc k))))))) h = absurd (omega arith)

-- the text shows the fields in one of the forms
abbrev pub IsRead : List ℕ → Fields → Type 0
IsRead text f = IsWritten text f.year f.month f.day (time_of f) × Fits f

either_sound : (text : List ℕ) (f : Fields) → read_either_mark text ≡ Some f → ShowsDayFirst (32 ∷ []) text f ⊎ ShowsDayFirst (45 ∷ []) text f
unfolding read_either_mark
either_sound text f e = go (get_or text 2 0 == 45) e
  where
    go : (dash : Bool) → cond dash (read_day_first (45 ∷ []) text) (read_day_first (32 ∷ []) text) ≡ Some f → ShowsDayFirst (32 ∷ []) text f ⊎ ShowsDayFirst (45 ∷ []) text f
    go true e = inr (day_first-front (45 ∷ []) text f e)
    go false e = inl (day_first-front (32 ∷ []) text f e)

-- forms 1 and 4, and form 3, behind a lead
day_first_read : (lead after text : List ℕ) (f : Fields) → IsLead weekday_text (44 ∷ 32 ∷ []) lead → text ≡ lead ++ after → read_either_mark after ≡ Some f → IsRead text f
day_first_read lead after text f is whole e = elim (either_sound after f e) [
  | inl (shown, year, d, fits) ↦ (inl (lead, shown, is, year, whole ∙ ap (λ r. lead ++ r) d), fits)
  | inr (shown, year, d, fits) ↦ (inr (inr (inr (lead, shown, is, year, whole ∙ ap (λ r. lead ++ r) d))), fits)
]

month_first_read : (lead after text : List ℕ) (f : Fields) → IsLead weekday_text (32 ∷ []) lead → text ≡ lead ++ after → read_month_first after ≡ Some f → IsRead text f
month_first_read lead after text f is whole e =
    let (shown, padded, year, day, d, fits) = month_first-front after f e in
    (inr (inr (inl (lead, shown, padded, is, year, day, whole ∙ ap (λ r. lead ++ r) d))), fits)

short_year_read : (lead after text : List ℕ) (f : Fields) → IsLead long_weekday_text (44 ∷ 32 ∷ []) lead → text ≡ lead ++ after → read_short_year after ≡ Some f → IsRead text f
short_year_read lead after text f is whole e =
    let (short, small, year, d, fits) = short_year-front after f e in
    (inr (inl (lead, short, is, small, year, whole ∙ ap (λ r. lead ++ r) d)), fits)

unnamed_sound : (text : List ℕ) (f : Fields) → read_unnamed text ≡ Some f → IsRead text f
unfolding read_unnamed
unnamed_sound text f e = go (is_in_range 48 57 (get_or text 0 0)) e
  where
    go : (digit : Bool) → cond digit (read_either_mark text) (read_month_first text) ≡ Some f → IsRead text f
    go true e = day_first_read [] text text f (inl refl) refl e
    go false e = month_first_read [] text text f (inl refl) refl e

module _ (text rest : List ℕ) (n : ℕ) (f : Fields) (day : n < 7) (named : text ≡ weekday_text n ++ rest) where
  behind : (mark after : List ℕ) → rest ≡ mark ++ after → text ≡ (weekday_text n ++ mark) ++ after
  behind mark after e = named ∙ ap (λ r. weekday_text n ++ r) e ∙ sym (append_assoc (weekday_text n) mark after)

  spaced_or_long : (space : Bool) → cond space (option_and_then read_month_first (read_tag (32 ∷ []) rest)) (option_and_then (λ r. option_and_then read_short_year (read_tag (44 ∷ 32 ∷ []) r)) (read_tag (weekday_rest n) rest)) ≡ Some f → IsRead text f
  spaced_or_long true e =
      let (after, tag, read) = through_tag (32 ∷ []) rest read_month_first f e in
      month_first_read (weekday_text n ++ 32 ∷ []) after text f (inr (n, day, refl)) (behind (32 ∷ []) after tag) read
  spaced_or_long false e =
      let (at_comma, tag_rest, e₁) = through_tag (weekday_rest n) rest (λ r. option_and_then read_short_year (read_tag (44 ∷ 32 ∷ []) r)) f e in
      let (after, tag, read) = through_tag (44 ∷ 32 ∷ []) at_comma read_short_year f e₁ in
      let long : text ≡ long_weekday_text n ++ at_comma = behind (weekday_rest n) at_comma tag_rest ∙ ap (λ t. t ++ at_comma) (long_name n day) in
      let whole : text ≡ (long_weekday_text n ++ 44 ∷ 32 ∷ []) ++ after = long ∙ ap (λ r. long_weekday_text n ++ r) tag ∙ sym (append_assoc (long_weekday_text n) (44 ∷ 32 ∷ []) after) in
      short_year_read (long_weekday_text n ++ 44 ∷ 32 ∷ []) after text f (inr (n, day, refl)) whole read

  by_mark : (comma space : Bool) → cond comma (option_and_then read_either_mark (read_tag (44 ∷ 32 ∷ []) rest)) (cond space (option_and_then read_month_first (read_tag (32 ∷ []) rest)) (option_and_then (λ r. option_and_then read_short_year (read_tag (44 ∷ 32 ∷ []) r)) (read_tag (weekday_rest n) rest))) ≡ Some f → IsRead text f
  by_mark true space e =
      let (after, tag, read) = through_tag (44 ∷ 32 ∷ []) rest read_either_mark f e in
      day_first_read (weekday_text n ++ 44 ∷ 32 ∷ []) after text f (inr (n, day, refl)) (behind (44 ∷ 32 ∷ []) after tag) read
  by_mark false space e = spaced_or_long space e

  named_sound : read_named n rest ≡ Some f → IsRead text f
  unfolding read_named
  named_sound e = by_mark (get_or rest 0 0 == 44) (get_or rest 0 0 == 32) e

-- a text of which fields are read shows them in one of the forms
pub fields_sound : (text : List ℕ) (f : Fields) → read_fields text ≡ Some f → IsRead text f
unfolding read_fields
fields_sound text f e = by_name (read_name weekday_text 7 0 text) refl e
  where
    by_name : (o : Front ℕ) → read_name weekday_text 7 0 text ≡ o → named_or o (read_unnamed text) ≡ Some f → IsRead text f
    by_name None is e = unnamed_sound text f e
    by_name (Some r) is e = let (from, to, named) = name-front weekday_text 7 0 text r is in named_sound text r.1 r.0 f to named e
