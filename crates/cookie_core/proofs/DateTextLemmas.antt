-- A printed date is visible ASCII and spaces, is trimmed, and holds no `;`.
use Rattle.std.proofs.Common.{◌≡◌, Bool, true, ◌&&◌, ℕ, ℤ, ◌+◌, ◌-◌, ◌/◌, ◌%◌, ◌<◌, codes, pos, negsuc, neg_ℤ, ◌<ℤ◌, ◌^◌, List, [], ◌∷◌, ◌++◌, length, get_or, refl, zero, suc, arith, length-append, nat_le, nat_lt}
use Rattle.std.specs.Fmt.{signed_decimal, decimal}
use Rattle.std.specs.List.{list_all}
use Rattle.std.specs.Str.{trim, skip_leading_whitespace, drop_trailing_whitespace}
use Rattle.std.proofs.lemmas.Bool.{and_parts}
use Rattle.std.proofs.lemmas.Bool.Decides.{nat_tests}
use Rattle.jiff.proofs.SpanFacts.{signed_arith}
use Rattle.jiff.specs.Types.{DateTime, Time}
use Rattle.jiff.specs.Words.{weekday_of}
use Rattle.cookie_date.specs.Names.{weekday_text, month_text}
use Rattle.cookie_date.specs.Text.{two_digits, clock_text, moment_text}
use Rattle.cookie_date.proofs.CalendarLemmas.{day_bound}
use Rattle.cookie_core.specs.Pieces.{Lacks}
use Rattle.cookie_core.proofs.AgeTextLemmas.{decimal_is_tokens}
use Rattle.cookie_core.proofs.ByteLemmas.{is_low, is_other, all-append, all-weaker, IsAscii-from_test, Lacks-from_test}
use Rattle.cookie_core.proofs.EscapeTextLemmas.{is_token}
use Rattle.cookie_core.proofs.GraphicLemmas.{trim-same, drop_trailing-append}

-- visible ASCII or a space, but not `;`
abbrev pub is_date_byte : ℕ → Bool
is_date_byte b = nat_le 32 b && (nat_lt b 127 && is_other 59 b)

token_is_date_byte : (b : ℕ) → is_token b ≡ true → is_date_byte b ≡ true
token_is_date_byte b h = grind (arith, nat_tests)

item_passes : (p : ℕ → Bool) (ts : List (List ℕ)) (i : ℕ) → list_all (list_all p) ts ≡ true → list_all p (get_or ts i []) ≡ true
item_passes p [] i h = refl
item_passes p (t ∷ ts) zero h = (and_parts (list_all p t) (list_all (list_all p) ts) h).0
item_passes p (t ∷ ts) (suc i) h = item_passes p ts i (and_parts (list_all p t) (list_all (list_all p) ts) h).1

weekday_passes : (n : ℕ) → list_all is_date_byte (weekday_text n) ≡ true
weekday_passes n =
    item_passes is_date_byte
    (codes "Mon" ∷ codes "Tue" ∷ codes "Wed" ∷ codes "Thu" ∷ codes "Fri" ∷ codes "Sat" ∷ codes "Sun" ∷ []) n refl

month_passes : (n : ℕ) → list_all is_date_byte (month_text n) ≡ true
month_passes n =
    item_passes is_date_byte
    (codes "Jan" ∷ codes "Feb" ∷ codes "Mar" ∷ codes "Apr" ∷ codes "May" ∷ codes "Jun"
    ∷ codes "Jul" ∷ codes "Aug" ∷ codes "Sep" ∷ codes "Oct" ∷ codes "Nov" ∷ codes "Dec" ∷ [])
    (n - 1) refl

figure_passes : (b : ℕ) → b < 10 → is_date_byte (48 + b) ≡ true
figure_passes b h = grind (arith, nat_tests)

two_digits_pass : (n : ℕ) → n < 100 → list_all is_date_byte (two_digits n) ≡ true
two_digits_pass n h =
    rw (figure_passes (n / 10) (omega arith), figure_passes (n % 10) (omega arith)) refl

clock_passes : (t : Time) → list_all is_date_byte (clock_text t.hour t.minute t.second) ≡ true
clock_passes t =
    let f = figure_passes in
    let h1 = f (t.hour / 10) (omega (arith, t.hour_in)) in
    let h2 = f (t.hour % 10) (omega arith) in
    let m1 = f (t.minute / 10) (omega (arith, t.minute_in)) in
    let m2 = f (t.minute % 10) (omega arith) in
    let s1 = f (t.second / 10) (omega (arith, t.second_in)) in
    let s2 = f (t.second % 10) (omega arith) in
    rw (h1, h2, m1, m2, s1, s2) refl

abbrev signed_small : ℤ → Type 0
signed_small (pos n) = n < 2 ^ 64
signed_small (negsuc n) = suc n < 2 ^ 64

year_small : (y : ℤ) → neg_ℤ (pos 10000) <ℤ y → y <ℤ pos 10000 → signed_small y
year_small (pos n) h k = omega (arith, signed_arith, k)
year_small (negsuc n) h k = omega (arith, signed_arith, h)

year_passes : (y : ℤ) → signed_small y → list_all is_date_byte (signed_decimal y) ≡ true
year_passes (pos n) h = all-weaker is_token is_date_byte token_is_date_byte (decimal n) (decimal_is_tokens n h)
year_passes (negsuc n) h = all-weaker is_token is_date_byte token_is_date_byte (decimal (suc n)) (decimal_is_tokens (suc n) h)

pub date_passes : (m : DateTime) → list_all is_date_byte (moment_text m) ≡ true
date_passes m =
    let p = is_date_byte in
    let day : m.date.day < 100 = omega (arith, m.date.day_in, day_bound m.date.year m.date.month) in
    let year : signed_small m.date.year = year_small m.date.year (omega (arith, signed_arith, m.date.year_in)) (omega (arith, signed_arith, m.date.year_in)) in
    let c : List ℕ = clock_text m.time.hour m.time.minute m.time.second ++ codes " GMT" in
    let pc : list_all p c ≡ true = all-append p (clock_text m.time.hour m.time.minute m.time.second) (codes " GMT") (clock_passes m.time) refl in
    let y : List ℕ = signed_decimal m.date.year ++ (codes " " ++ c) in
    let py : list_all p y ≡ true = all-append p (signed_decimal m.date.year) (codes " " ++ c) (year_passes m.date.year year) pc in
    let o : List ℕ = month_text m.date.month ++ (codes " " ++ y) in
    let po : list_all p o ≡ true = all-append p (month_text m.date.month) (codes " " ++ y) (month_passes m.date.month) py in
    let d : List ℕ = two_digits m.date.day ++ (codes " " ++ o) in
    let pd : list_all p d ≡ true = all-append p (two_digits m.date.day) (codes " " ++ o) (two_digits_pass m.date.day day) po in
    all-append p (weekday_text (weekday_of m.date)) (codes ", " ++ d) (weekday_passes (weekday_of m.date)) pd

date_byte_is_low : (b : ℕ) → is_date_byte b ≡ true → is_low b ≡ true
date_byte_is_low b h = grind (arith, nat_tests)

date_byte_is_other : (b : ℕ) → is_date_byte b ≡ true → is_other 59 b ≡ true
date_byte_is_other b h = grind (arith, nat_tests)

pub date_lacks_semicolon : (m : DateTime) → Lacks 59 (moment_text m)
date_lacks_semicolon m = Lacks-from_test 59 (moment_text m) (all-weaker is_date_byte (is_other 59) date_byte_is_other (moment_text m) (date_passes m))

-- no weekday's text begins with white space, and nor does the `,` behind it
weekday_skips : (n : ℕ) (t : List ℕ) → skip_leading_whitespace (weekday_text n ++ 44 ∷ t) ≡ weekday_text n ++ 44 ∷ t
weekday_skips zero t = refl
weekday_skips (suc zero) t = refl
weekday_skips (suc (suc zero)) t = refl
weekday_skips (suc (suc (suc zero))) t = refl
weekday_skips (suc (suc (suc (suc zero)))) t = refl
weekday_skips (suc (suc (suc (suc (suc zero))))) t = refl
weekday_skips (suc (suc (suc (suc (suc (suc zero)))))) t = refl
weekday_skips (suc (suc (suc (suc (suc (suc (suc n))))))) t = refl

-- the text is not empty, and ends with no white space
abbrev Ends : List ℕ → Type 0
Ends t = (0 < length t) × (drop_trailing_whitespace t ≡ t)

ends-append : (a b : List ℕ) → Ends b → Ends (a ++ b)
ends-append a b h = (omega (arith, length-append a b), drop_trailing-append a b h.0 h.1)

-- the date ends as its zone does
date_drops : (m : DateTime) → drop_trailing_whitespace (moment_text m) ≡ moment_text m
date_drops m =
    let e : Ends (codes " GMT") = (omega arith, refl) in
    let c : List ℕ = clock_text m.time.hour m.time.minute m.time.second ++ codes " GMT" in
    let y : List ℕ = signed_decimal m.date.year ++ (codes " " ++ c) in
    let o : List ℕ = month_text m.date.month ++ (codes " " ++ y) in
    let d : List ℕ = two_digits m.date.day ++ (codes " " ++ o) in
    let ec : Ends c = ends-append (clock_text m.time.hour m.time.minute m.time.second) (codes " GMT") e in
    let ey : Ends y = ends-append (signed_decimal m.date.year) (codes " " ++ c) (ends-append (codes " ") c ec) in
    let eo : Ends o = ends-append (month_text m.date.month) (codes " " ++ y) (ends-append (codes " ") y ey) in
    let ed : Ends d = ends-append (two_digits m.date.day) (codes " " ++ o) (ends-append (codes " ") o eo) in
    (ends-append (weekday_text (weekday_of m.date)) (codes ", " ++ d) (ends-append (codes ", ") d ed)).1

pub trim-date : (m : DateTime) → trim (moment_text m) ≡ moment_text m
trim-date m =
    trim-same (moment_text m) (IsAscii-from_test (moment_text m) (all-weaker is_date_byte is_low date_byte_is_low (moment_text m) (date_passes m))) (weekday_skips (weekday_of m.date) _) (date_drops m)
