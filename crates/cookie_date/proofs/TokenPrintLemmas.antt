-- A browser reads what is printed of a date-time from 1601 on.
use Rattle.std.proofs.Common.{◌≡◌, ℕ, zero, suc, ◌+◌, ◌-◌, ◌/◌, ◌%◌, ◌<◌, ◌≤◌, inr, option_and_then, Bool, true, false, not, codes, List, [], ◌∷◌, ◌++◌, length, get_or, Option, Some, None, refl, sym, ap, ◌∙◌, subst, arith, ℤ, pos, negsuc, ◌≤ℤ◌, All}
use Rattle.std.proofs.lemmas.Bool.{and_parts}
use Rattle.std.proofs.lemmas.Bool.Decides.{nat_tests}
use Rattle.std.proofs.lemmas.Fmt.{decimal_is_IsNumeral, length-decimal-le}
use Rattle.std.proofs.lemmas.List.{append-nil}
use Rattle.std.proofs.lemmas.List.Elements.{All-cons, All-nil}
use Rattle.std.proofs.lemmas.List.Splits.{slice_split_at}
use Rattle.std.proofs.lemmas.Str.{digit_value_digit}
use Rattle.std.proofs.lemmas.Str.Parse.{digits_value_short, numerals_by_value, tells_digits, digit_from_value}
use Rattle.std.specs.Char.{digit_value, is_ascii_digit}
use Rattle.std.specs.Fmt.{decimal, signed_decimal}
use Rattle.std.specs.Int.{IsInRange}
use Rattle.std.specs.List.{fold, list_all}
use Rattle.std.specs.Prelude.{int_lt}
use Rattle.std.specs.Str.Parse.{AllDigits}
use Rattle.jiff.specs.Types.{DateTime}
use Rattle.jiff.specs.Words.{weekday_of}
use Rattle.jiff.proofs.SpanFacts.{signed_arith}
use Rattle.cookie_date.specs.declared.fields.Fields.{Fields}
use Rattle.cookie_date.specs.declared.found.Found.{Found}
use Rattle.cookie_date.specs.CookieDate.{is_delimiter, date_tokens, read_run, time_in, day_in, year_in, month_from, with_token, nothing_found, found_in, found_fields, date_of_found, cookie_date_of}
use Rattle.cookie_date.specs.Fields.{HasFields}
use Rattle.cookie_date.specs.Forms.{IsReadBack, full_year}
use Rattle.cookie_date.specs.Names.{weekday_text, month_text}
use Rattle.cookie_date.specs.Reader.{fields_of}
use Rattle.cookie_date.specs.Text.{two_digits, clock_text, moment_text}
use Rattle.cookie_date.specs.Productions.{IsRun}
use Rattle.cookie_date.proofs.CalendarLemmas.{day_bound}
use Rattle.cookie_date.proofs.FoundLemmas.{found-is}
use Rattle.cookie_date.proofs.PrintLemmas.{long_year, read_back}
use Rattle.cookie_date.proofs.ProductionLemmas.{run-read, time_in-is}

-- ---- the tokens

abbrev is_plain : ℕ → Bool
is_plain b = not (is_delimiter b)

plain_all : (t : List ℕ) → list_all is_plain t ≡ true → All (λ b. is_delimiter b ≡ false) t
plain_all [] h = All-nil _
plain_all (b ∷ t) h =
    let k = and_parts (is_plain b) (list_all is_plain t) h in
    All-cons (λ b. is_delimiter b ≡ false) b t (not_false (is_delimiter b) k.0) (plain_all t k.1)
  where
    not_false : (x : Bool) → not x ≡ true → x ≡ false
    not_false true e = sym e
    not_false false e = refl

token-cut : (t : List ℕ) (d : ℕ) (rest : List ℕ) → list_all is_plain t ≡ true → is_delimiter d ≡ true → date_tokens (t ++ d ∷ rest) ≡ t ∷ date_tokens rest
token-cut t d rest plain is = slice_split_at is_delimiter t d rest (plain_all t plain) is

item_plain : (ts : List (List ℕ)) (i : ℕ) → list_all (list_all is_plain) ts ≡ true → list_all is_plain (get_or ts i []) ≡ true
item_plain [] i h = refl
item_plain (t ∷ ts) zero h = (and_parts (list_all is_plain t) (list_all (list_all is_plain) ts) h).0
item_plain (t ∷ ts) (suc i) h = item_plain ts i (and_parts (list_all is_plain t) (list_all (list_all is_plain) ts) h).1

weekday_plain : (n : ℕ) → list_all is_plain (weekday_text n) ≡ true
weekday_plain n = item_plain (codes "Mon" ∷ codes "Tue" ∷ codes "Wed" ∷ codes "Thu" ∷ codes "Fri" ∷ codes "Sat" ∷ codes "Sun" ∷ []) n refl

month_plain : (n : ℕ) → list_all is_plain (month_text n) ≡ true
month_plain n =
    item_plain
    (codes "Jan" ∷ codes "Feb" ∷ codes "Mar" ∷ codes "Apr" ∷ codes "May" ∷ codes "Jun"
    ∷ codes "Jul" ∷ codes "Aug" ∷ codes "Sep" ∷ codes "Oct" ∷ codes "Nov" ∷ codes "Dec" ∷ []) (n - 1) refl

figure_plain : (b : ℕ) → b < 10 → is_plain (48 + b) ≡ true
figure_plain b h = grind (arith, nat_tests)

digits_plain : (ds : List ℕ) → AllDigits 10 ds → list_all is_plain ds ≡ true
digits_plain [] h = refl
digits_plain (b ∷ ds) h =
    let range : IsInRange 48 57 b = digit_from_value b h.0 in
    let plain : is_plain b ≡ true = grind (arith, nat_tests) in
    rw (plain, digits_plain ds h.1) refl

two_plain : (n : ℕ) → n < 100 → list_all is_plain (two_digits n) ≡ true
two_plain n h = rw (figure_plain (n / 10) (omega arith), figure_plain (n % 10) (omega arith)) refl

clock_plain : (h m s : ℕ) → h < 100 → m < 100 → s < 100 → list_all is_plain (clock_text h m s) ≡ true
clock_plain h m s hh hm hs =
    rw (figure_plain (h / 10) (omega arith), figure_plain (h % 10) (omega arith), figure_plain (m / 10) (omega arith), figure_plain (m % 10) (omega arith), figure_plain (s / 10) (omega arith), figure_plain (s % 10) (omega arith)) refl

-- ---- what each token gives

figure_value : (k : ℕ) → k < 10 → digit_value (48 + k) ≡ k
figure_value k h = let range : IsInRange 48 57 (48 + k) = omega arith in omega (arith, digit_value_digit (48 + k) range)

two_run : (d : ℕ) (rest : List ℕ) → d < 100 → is_ascii_digit (get_or rest 0 0) ≡ false → IsRun 1 2 (two_digits d ++ rest) d rest
two_run d rest small apart =
    let tens = figure_value (d / 10) (omega arith) in
    let units = figure_value (d % 10) (omega arith) in
    (two_digits d, refl, (omega (arith, tens), (omega (arith, units), tt)), omega arith, omega arith, omega (arith, tens, units), apart)

weekday_nothing : (n : ℕ) → with_token nothing_found (weekday_text n) ≡ nothing_found
unfolding with_token time_in day_in year_in month_from read_run
weekday_nothing zero = refl
weekday_nothing (suc zero) = refl
weekday_nothing (suc (suc zero)) = refl
weekday_nothing (suc (suc (suc zero))) = refl
weekday_nothing (suc (suc (suc (suc zero)))) = refl
weekday_nothing (suc (suc (suc (suc (suc zero))))) = refl
weekday_nothing (suc (suc (suc (suc (suc (suc zero)))))) = refl
weekday_nothing (suc (suc (suc (suc (suc (suc (suc n))))))) = refl

empty_nothing : with_token nothing_found [] ≡ nothing_found
unfolding with_token time_in day_in year_in month_from read_run
empty_nothing = refl

abbrev with_day : ℕ → Found
with_day d = record nothing_found { day = Some d }

day_found : (d : ℕ) → d < 100 → with_token nothing_found (two_digits d) ≡ with_day d
unfolding with_token time_in day_in
day_found d small =
    let run : read_run 1 2 (two_digits d) ≡ Some (d, []) = run-read 1 2 (two_digits d) d [] (two_run d [] small refl) in
    rw run refl

abbrev with_month : ℕ → ℕ → Found
with_month d m = record (with_day d) { month = Some m }

month_found : (d m : ℕ) → IsInRange 1 12 m → with_token (with_day d) (month_text m) ≡ with_month d m
unfolding with_token time_in day_in year_in month_from read_run
month_found d zero h = absurd (omega (arith, h.0))
month_found d (suc zero) h = refl
month_found d (suc (suc zero)) h = refl
month_found d (suc (suc (suc zero))) h = refl
month_found d (suc (suc (suc (suc zero)))) h = refl
month_found d (suc (suc (suc (suc (suc zero))))) h = refl
month_found d (suc (suc (suc (suc (suc (suc zero)))))) h = refl
month_found d (suc (suc (suc (suc (suc (suc (suc zero))))))) h = refl
month_found d (suc (suc (suc (suc (suc (suc (suc (suc zero)))))))) h = refl
month_found d (suc (suc (suc (suc (suc (suc (suc (suc (suc zero))))))))) h = refl
month_found d (suc (suc (suc (suc (suc (suc (suc (suc (suc (suc zero)))))))))) h = refl
month_found d (suc (suc (suc (suc (suc (suc (suc (suc (suc (suc (suc zero))))))))))) h = refl
month_found d (suc (suc (suc (suc (suc (suc (suc (suc (suc (suc (suc (suc zero)))))))))))) h = refl
month_found d (suc (suc (suc (suc (suc (suc (suc (suc (suc (suc (suc (suc (suc m))))))))))))) h = absurd (omega (arith, h.1))

digits_hold : (xs ys : List ℕ) (c : ℕ) → AllDigits 10 (xs ++ c ∷ ys) → digit_value c < 10
digits_hold [] ys c h = h.0
digits_hold (x ∷ xs) ys c h = digits_hold xs ys c h.1

-- a number is no time
no_time : (ds : List ℕ) → AllDigits 10 ds → time_in ds ≡ None
no_time ds all = by (time_in ds) refl
  where
    by : (o : Option (ℕ × ℕ × ℕ)) → time_in ds ≡ o → o ≡ None
    by None e = refl
    by (Some t) e =
        let (a, b, c, hour, minute, second) = (time_in-is ds t).0 e in
        let colon : digit_value 58 < 10 = digits_hold hour.0 a 58 (subst (AllDigits 10) hour.1 all) in
        absurd (omega arith)

abbrev with_year : ℕ → ℕ → ℕ → Found
with_year d m y = record (with_month d m) { year = Some y }

year_found : (d m y : ℕ) → 100 ≤ y → y < 10000 → with_token (with_month d m) (decimal y) ≡ with_year d m y
unfolding with_token year_in
year_found d m y from below =
    let numeral = decimal_is_IsNumeral y (omega arith) in
    let value = numeral.1 in
    let all = numeral.0.1 in
    let short : length (decimal y) ≤ 4 = length-decimal-le 4 y (omega arith) (omega arith) (omega arith) in
    let long : 2 ≤ length (decimal y) = enough (length (decimal y)) refl in
    let run : read_run 2 4 (decimal y) ≡ Some (y, []) = run-read 2 4 (decimal y) y [] (decimal y, sym (append-nil (decimal y)), all, long, short, sym value, refl) in
    rw (no_time (decimal y) all, run) refl
  where
    enough : (n : ℕ) → length (decimal y) ≡ n → 2 ≤ n
    enough zero e = absurd (omega (arith, (decimal_is_IsNumeral y (omega arith)).0.0))
    enough (suc zero) e =
        let numeral = decimal_is_IsNumeral y (omega arith) in
        let low = digits_value_short (numerals_by_value _ tells_digits) (decimal y) 1 numeral.0.1 (omega arith) in
        absurd (omega (arith, low, numeral.1))
    enough (suc (suc n)) e = omega arith

abbrev with_clock : ℕ → ℕ → ℕ → ℕ × ℕ × ℕ → Found
with_clock d m y t = record (with_year d m y) { time = Some t }

clock_found : (d m y h i s : ℕ) → h < 100 → i < 100 → s < 100 → with_token (with_year d m y) (clock_text h i s) ≡ with_clock d m y (h, i, s)
unfolding with_token
clock_found d m y h i s hh hi hs =
    let time : time_in (clock_text h i s) ≡ Some (h, i, s) =
    (time_in-is (clock_text h i s) (h, i, s)).1
    (two_digits i ++ 58 ∷ two_digits s, two_digits s, [], two_run h (58 ∷ (two_digits i ++ 58 ∷ two_digits s)) hh refl, two_run i (58 ∷ two_digits s) hi refl, two_run s [] hs refl) in
    rw time refl

zone_nothing : (d m y : ℕ) (t : ℕ × ℕ × ℕ) → with_token (with_clock d m y t) (codes "GMT") ≡ with_clock d m y t
unfolding with_token
zone_nothing d m y t = refl

-- ---- the date

module _ (w d m y h i s : ℕ) (day : d < 100) (month : IsInRange 1 12 m) (from : 100 ≤ y) (below : y < 10000) (hh : h < 100) (hi : i < 100) (hs : s < 100) where
  abbrev clock_on : List ℕ
  clock_on = clock_text h i s ++ codes " GMT"

  abbrev year_on : List ℕ
  year_on = decimal y ++ (codes " " ++ clock_on)

  abbrev month_on : List ℕ
  month_on = month_text m ++ (codes " " ++ year_on)

  abbrev day_on : List ℕ
  day_on = two_digits d ++ (codes " " ++ month_on)

  pub tokens_printed : date_tokens (weekday_text w ++ (codes ", " ++ day_on)) ≡ weekday_text w ∷ [] ∷ two_digits d ∷ month_text m ∷ decimal y ∷ clock_text h i s ∷ codes "GMT" ∷ []
  tokens_printed =
      let numeral = decimal_is_IsNumeral y (omega arith) in
      token-cut (weekday_text w) 44 (32 ∷ day_on) (weekday_plain w) refl
      ∙ ap (λ ts. weekday_text w ∷ [] ∷ ts) (token-cut (two_digits d) 32 month_on (two_plain d day) refl)
      ∙ ap (λ ts. weekday_text w ∷ [] ∷ two_digits d ∷ ts) (token-cut (month_text m) 32 year_on (month_plain m) refl)
      ∙ ap (λ ts. weekday_text w ∷ [] ∷ two_digits d ∷ month_text m ∷ ts) (token-cut (decimal y) 32 clock_on (digits_plain (decimal y) numeral.0.1) refl)
      ∙ ap (λ ts. weekday_text w ∷ [] ∷ two_digits d ∷ month_text m ∷ decimal y ∷ ts) (token-cut (clock_text h i s) 32 (codes "GMT") (clock_plain h i s hh hi hs) refl)

  pub found_printed : found_in (weekday_text w ++ (codes ", " ++ day_on)) ≡ with_clock d m y (h, i, s)
  found_printed =
      ap (fold with_token nothing_found) tokens_printed
      ∙ ap (λ f. fold with_token f ([] ∷ two_digits d ∷ month_text m ∷ decimal y ∷ clock_text h i s ∷ codes "GMT" ∷ [])) (weekday_nothing w)
      ∙ ap (λ f. fold with_token f (two_digits d ∷ month_text m ∷ decimal y ∷ clock_text h i s ∷ codes "GMT" ∷ [])) empty_nothing
      ∙ ap (λ f. fold with_token f (month_text m ∷ decimal y ∷ clock_text h i s ∷ codes "GMT" ∷ [])) (day_found d day)
      ∙ ap (λ f. fold with_token f (decimal y ∷ clock_text h i s ∷ codes "GMT" ∷ [])) (month_found d m month)
      ∙ ap (λ f. fold with_token f (clock_text h i s ∷ codes "GMT" ∷ [])) (year_found d m y from below)
      ∙ ap (λ f. fold with_token f (codes "GMT" ∷ [])) (clock_found d m y h i s hh hi hs)
      ∙ zone_nothing d m y (h, i, s)

not_below : (n : ℕ) → 1601 ≤ n → int_lt (pos n) (pos 1601) ≡ false
not_below n large = grind (arith, nat_tests)

-- what is printed of a date-time from 1601 on is read as that, in whole seconds
pub cookie_date_printed : (m back : DateTime) → pos 1601 ≤ℤ m.date.year → IsReadBack m back → cookie_date_of (moment_text m) ≡ Some back
unfolding cookie_date_of
cookie_date_printed m back from is = by m.date.year refl
  where
    by : (year : ℤ) → m.date.year ≡ year → cookie_date_of (moment_text m) ≡ Some back
    by (negsuc n) e = absurd (omega (arith, signed_arith, from, e))
    by (pos n) e =
        let large : 1601 ≤ n = omega (arith, signed_arith, from, e) in
        let small : n < 10000 = omega (arith, signed_arith, m.date.year_in, e) in
        let f : Fields = fields_of (pos n) m.date.month m.date.day (m.time.hour, m.time.minute, m.time.second) in
        let day : m.date.day < 100 = omega (arith, m.date.day_in, day_bound m.date.year m.date.month) in
        let text : moment_text m ≡ weekday_text (weekday_of m.date) ++ (codes ", " ++ (two_digits m.date.day ++ (codes " " ++ (month_text m.date.month ++ (codes " " ++ (decimal n ++ (codes " " ++ (clock_text m.time.hour m.time.minute m.time.second ++ codes " GMT"))))))))
        = ap (λ y. weekday_text (weekday_of m.date) ++ (codes ", " ++ (two_digits m.date.day ++ (codes " " ++ (month_text m.date.month ++ (codes " " ++ (signed_decimal y ++ (codes " " ++ (clock_text m.time.hour m.time.minute m.time.second ++ codes " GMT"))))))))) e in
        let found = ap found_in text ∙ found_printed (weekday_of m.date) m.date.day m.date.month n m.time.hour m.time.minute m.time.second day m.date.month_in (omega arith) small (omega (arith, m.time.hour_in)) (omega (arith, m.time.minute_in)) (omega (arith, m.time.second_in)) in
        let kept : full_year (pos n) ≡ pos n = long_year (pos n) (inr (omega (arith, signed_arith, large))) in
        let late : int_lt (full_year (pos n)) (pos 1601) ≡ false = ap (λ y. int_lt y (pos 1601)) kept ∙ not_below n large in
        let has : HasFields f back = (is.0 ∙ ap full_year e, is.1, is.2, is.3, is.4, is.5, is.6) in
        ap (λ g. option_and_then date_of_found (found_fields g)) found ∙ (found-is f late back).1 has

-- the same, with the date-time that is read
pub cookie_date_back : (text : List ℕ) (o : Option DateTime) → o ≡ cookie_date_of text → (m : DateTime) → text ≡ moment_text m → pos 1601 ≤ℤ m.date.year → (back : DateTime) × (o ≡ Some back) × IsReadBack m back
cookie_date_back text o is m e from =
    let (back, r) = read_back m in
    (back, is ∙ ap cookie_date_of e ∙ cookie_date_printed m back from r, r)
