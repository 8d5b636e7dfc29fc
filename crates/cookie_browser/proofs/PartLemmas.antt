-- What each part of a cookie's printed text does to the attributes that a browser reads.
use Rattle.std.proofs.Common.{◌≡◌, ℕ, ℤ, pos, negsuc, zero, suc, ◌+◌, ◌-◌, ◌≤◌, ◌<◌, ◌||◌, Bool, true, false, cond, codes, List, [], ◌∷◌, ◌++◌, length, Option, Some, None, option_map, IfSome, min, nat_lt, nat_le, get_or, length-append, refl, ap, ◌∙◌, arith}
use Rattle.std.specs.Fmt.{signed_decimal}
use Rattle.std.specs.List.{list_all}
use Rattle.std.specs.Option.{option_or}
use Rattle.std.specs.Prelude.{fold, int_div, is_some}
use Rattle.std.proofs.lemmas.Bool.{cond-false, and_parts}
use Rattle.std.proofs.lemmas.Bool.Decides.{nat_tests}
use Rattle.std.proofs.lemmas.Fmt.{length-decimal-le}
use Rattle.std.proofs.lemmas.List.{get_or-append-add}
use Rattle.jiff.proofs.SpanFacts.{signed_arith}
use Rattle.jiff.specs.Types.{DateTime}
use Rattle.jiff.specs.Words.{IsDurationNanos, IsYear, weekday_of}
use Rattle.cookie_date.specs.CookieDate.{cookie_date_of}
use Rattle.cookie_date.specs.Names.{weekday_text, month_text}
use Rattle.cookie_date.specs.Text.{two_digits, clock_text, moment_text}
use Rattle.cookie_core.specs.SameSite.{same_site_text}
use Rattle.cookie_core.specs.Text.{flag_text, attribute_text, seconds_text, expiry_text}
use Rattle.cookie_core.specs.declared.same_site.SameSite.{SameSite}
use Rattle.cookie_core.specs.declared.same_site.SameSite.TheVariants as same_site
use Rattle.cookie_core.specs.declared.expiration.Expiration.{Expiration}
use Rattle.cookie_core.specs.declared.expiration.Expiration.TheVariants as expiration
use Rattle.cookie_core.proofs.AgeTextLemmas.{CanBeSeconds, read_seconds, seconds_fit, age_is_tokens, natural as core_natural}
use Rattle.cookie_core.proofs.DateTextLemmas.{is_date_byte, date_passes, date_lacks_semicolon}
use Rattle.cookie_core.proofs.EscapeTextLemmas.{is_token, token_is_other_59}
use Rattle.cookie_core.proofs.ByteLemmas.{is_other, all-append, all-weaker, Lacks-append, Lacks-from_test}
use Rattle.cookie_core.proofs.PieceWalkLemmas.{HasPieces, HasPieces-nil, HasPieces-one, HasPieces-append}
use Rattle.cookie_core.specs.Wsp.{is_wsp, trim_wsp}
use Rattle.cookie_browser.specs.Bytes.{cut}
use Rattle.cookie_browser.specs.Printed.{IsPlainValue, is_quiet, or_zero, printed_age, printed_enforcement, printed_moment}
use Rattle.cookie_browser.specs.Received.{AttributesView, age_limit, age_of, with_piece, with_attribute}
use Rattle.cookie_browser.specs.declared.enforcement.Enforcement.{Enforcement}
use Rattle.cookie_core.proofs.WspLemmas.{trim_wsp-dark, trim_wsp-tokens}

-- pieces without control characters that turn attributes into others
pub record Does (f : AttributesView → AttributesView) (ps : List (List ℕ)) : Type 0 where
  pub gives : (a : AttributesView) → fold with_piece a ps ≡ f a
  pub quiet : list_all (list_all is_quiet) ps ≡ true

fold-append : (a : AttributesView) (ps qs : List (List ℕ)) → fold with_piece a (ps ++ qs) ≡ fold with_piece (fold with_piece a ps) qs
fold-append a [] qs = refl
fold-append a (p ∷ ps) qs = fold-append (with_piece a p) ps qs

all_quiet-append : (ps qs : List (List ℕ)) → list_all (list_all is_quiet) ps ≡ true → list_all (list_all is_quiet) qs ≡ true → list_all (list_all is_quiet) (ps ++ qs) ≡ true
all_quiet-append [] qs h k = k
all_quiet-append (p ∷ ps) qs h k =
    let b = and_parts (list_all is_quiet p) (list_all (list_all is_quiet) ps) h in
    rw (b.0, all_quiet-append ps qs b.1 k) refl

Does-append : (f g : AttributesView → AttributesView) (ps qs : List (List ℕ)) → Does f ps → Does g qs → Does (λ a. g (f a)) (ps ++ qs)
Does-append f g ps qs p q =
    record {
      gives = λ a. fold-append a ps qs ∙ ap (λ s. fold with_piece s qs) (p.gives a) ∙ q.gives (f a);
      quiet = all_quiet-append ps qs p.quiet q.quiet;
    }

-- a text that is such pieces, each after a `;`
abbrev pub IsPart : (AttributesView → AttributesView) → List ℕ → Type 0
IsPart f t = HasPieces (Does f) t

pub IsPart-append : (f g : AttributesView → AttributesView) (s t : List ℕ) → IsPart f s → IsPart g t → IsPart (λ a. g (f a)) (s ++ t)
IsPart-append f g s t p q = HasPieces-append (Does f) (Does g) (Does (λ a. g (f a))) (Does-append f g) s t p q

no_part : IsPart (λ a. a) []
no_part = HasPieces-nil (Does (λ a. a)) (record { gives = λ a. refl; quiet = refl })

one_part : (f : AttributesView → AttributesView) (q : List ℕ) → list_all (is_other 59) q ≡ true → list_all is_quiet q ≡ true → ((a : AttributesView) → with_piece a q ≡ f a) → IsPart f (59 ∷ q)
one_part f q apart quiet gives =
    HasPieces-one (Does f) q (Lacks-from_test 59 q apart) (record { gives = gives; quiet = rw quiet refl })

-- ---- flags

pub http_only_part : (b : Bool) → IsPart (λ a. record a { http_only = b || a.http_only }) (flag_text (codes "; HttpOnly") b)
unfolding with_piece with_attribute cut trim_wsp
http_only_part true = one_part _ (codes " HttpOnly") refl refl (λ a. refl)
http_only_part false = no_part

pub secure_part : (b : Bool) → IsPart (λ a. record a { secure = b || a.secure }) (flag_text (codes "; Secure") b)
unfolding with_piece with_attribute cut trim_wsp
secure_part true = one_part _ (codes " Secure") refl refl (λ a. refl)
secure_part false = no_part

pub partitioned_part : (b : Bool) → IsPart (λ a. a) (flag_text (codes "; Partitioned") b)
unfolding with_piece with_attribute cut trim_wsp
partitioned_part true = one_part _ (codes " Partitioned") refl refl (λ a. refl)
partitioned_part false = no_part

-- the enforcement that is printed, if one is
abbrev pub or_printed : Option SameSite → Enforcement → Enforcement
or_printed None other = other
or_printed (Some s) other = printed_enforcement (Some s)

pub same_site_part : (o : Option SameSite) → IsPart (λ a. record a { same_site = or_printed o a.same_site }) (attribute_text (codes "; SameSite=") (option_map same_site_text o))
unfolding with_piece with_attribute cut trim_wsp
same_site_part None = no_part
same_site_part (Some same_site.Strict) = one_part _ (codes " SameSite=Strict") refl refl (λ a. refl)
same_site_part (Some same_site.Lax) = one_part _ (codes " SameSite=Lax") refl refl (λ a. refl)
same_site_part (Some same_site.None) = one_part _ (codes " SameSite=None") refl refl (λ a. refl)

-- ---- values

not_long : (v : List ℕ) → length v ≤ 1024 → nat_lt 1024 (length v) ≡ false
not_long v h = grind (arith, nat_tests)

-- a part with a plain value: `word` is the text before the value
value_part : (f : AttributesView → AttributesView) (front v : List ℕ) → list_all (is_other 59) front ≡ true → list_all is_quiet front ≡ true → IsPlainValue v → ((a : AttributesView) → with_piece a (front ++ v) ≡ f a) → IsPart f (59 ∷ (front ++ v))
value_part f front v apart quiet plain gives =
    HasPieces-one (Does f) (front ++ v) (Lacks-append 59 front v (Lacks-from_test 59 front apart) plain.whole)
    (record { gives = gives; quiet = rw (all-append is_quiet front v quiet plain.quiet) refl })

-- the text that is printed, if one is
abbrev pub or_text : Option (List ℕ) → List ℕ → List ℕ
or_text None other = other
or_text (Some t) other = t

pub path_part : (o : Option (List ℕ)) → IfSome o IsPlainValue → IsPart (λ a. record a { path = or_text o a.path; has_path = is_some o || a.has_path }) (attribute_text (codes "; Path=") o)
unfolding with_piece with_attribute cut trim_wsp
path_part None h = no_part
path_part (Some p) h =
    value_part _ (codes " Path=") p refl refl h
    (λ a. (λ i. cond (nat_lt 1024 (length (h.trimmed i))) a (record a { path = h.trimmed i; has_path = true })) ∙ cond-false _ _ _ (not_long p h.short))

pub domain_part : (o : Option (List ℕ)) → IfSome o IsPlainValue → IsPart (λ a. record a { domain = or_text o a.domain }) (attribute_text (codes "; Domain=") o)
unfolding with_piece with_attribute cut trim_wsp
domain_part None h = no_part
domain_part (Some d) h =
    value_part _ (codes " Domain=") d refl refl h
    (λ a. (λ i. cond (nat_lt 1024 (length (h.trimmed i))) a (record a { domain = h.trimmed i })) ∙ cond-false _ _ _ (not_long d h.short))

-- ---- ages

token_is_quiet : (b : ℕ) → is_token b ≡ true → is_quiet b ≡ true
token_is_quiet b h = grind (arith, nat_tests)

pub tokens_are_quiet : (t : List ℕ) → list_all is_token t ≡ true → list_all is_quiet t ≡ true
tokens_are_quiet = all-weaker is_token is_quiet token_is_quiet

plain_tokens : (t : List ℕ) → list_all is_token t ≡ true → length t ≤ 1024 → IsPlainValue t
plain_tokens t h l =
    record {
      whole = Lacks-from_test 59 t (all-weaker is_token (is_other 59) token_is_other_59 t h);
      quiet = tokens_are_quiet t h;
      trimmed = trim_wsp-tokens t h;
      short = l;
    }

signed_short : (s : ℤ) → CanBeSeconds s → length (signed_decimal s) ≤ 1024
signed_short (pos k) h = omega (arith, length-decimal-le 20 k (omega arith) (omega arith) (omega arith))
signed_short (negsuc k) h = omega (arith, length-decimal-le 20 (suc k) (omega arith) (omega arith) (omega arith))

age_is : (n : ℤ) → IsDurationNanos n → age_of (seconds_text n) ≡ Some (printed_age n)
age_is n h = ap (option_map (λ s. min s age_limit)) (read_seconds (int_div n (pos 1000000000)) (seconds_fit n h)) ∙ ap (λ s. Some (min s age_limit)) (natural-is (int_div n (pos 1000000000)))
  where
    natural-is : (s : ℤ) → core_natural s ≡ or_zero s
    natural-is (pos k) = refl
    natural-is (negsuc k) = refl

pub max_age_part : (o : Option ℤ) → IfSome o IsDurationNanos → IsPart (λ a. record a { max_age = option_or (option_map printed_age o) a.max_age }) (attribute_text (codes "; Max-Age=") (option_map seconds_text o))
unfolding with_piece with_attribute cut trim_wsp
max_age_part None h = no_part
max_age_part (Some n) h =
    let plain = plain_tokens (seconds_text n) (age_is_tokens n h) (signed_short (int_div n (pos 1000000000)) (seconds_fit n h)) in
    value_part _ (codes " Max-Age=") (seconds_text n) refl refl plain
    (λ a. (λ i. cond (nat_lt 1024 (length (plain.trimmed i))) a (record a { max_age = option_or (age_of (plain.trimmed i)) a.max_age }))
    ∙ cond-false _ _ _ (not_long (seconds_text n) plain.short) ∙ ap (λ x. record a { max_age = option_or x a.max_age }) (age_is n h))

-- ---- dates

date_byte_is_quiet : (b : ℕ) → is_date_byte b ≡ true → is_quiet b ≡ true
date_byte_is_quiet b h = grind (arith, nat_tests)

-- the text is not empty, and its last byte is no blank
abbrev EndsDark : List ℕ → Type 0
EndsDark t = (0 < length t) × (is_wsp (get_or t (length t - 1) 0) ≡ false)

ends-append : (a b : List ℕ) → EndsDark b → EndsDark (a ++ b)
ends-append a b h =
    let l = length-append a b in
    let at : length (a ++ b) - 1 ≡ length a + (length b - 1) = omega arith in
    (omega arith, ap (λ i. is_wsp (get_or (a ++ b) i 0)) at ∙ ap is_wsp (get_or-append-add a b (length b - 1) 0) ∙ h.1)

date_ends : (m : DateTime) → EndsDark (moment_text m)
date_ends m =
    let e : EndsDark (codes " GMT") = (omega arith, refl) in
    let c : List ℕ = clock_text m.time.hour m.time.minute m.time.second ++ codes " GMT" in
    let y : List ℕ = signed_decimal m.date.year ++ (codes " " ++ c) in
    let o : List ℕ = month_text m.date.month ++ (codes " " ++ y) in
    let d : List ℕ = two_digits m.date.day ++ (codes " " ++ o) in
    let ec : EndsDark c = ends-append (clock_text m.time.hour m.time.minute m.time.second) (codes " GMT") e in
    let ey : EndsDark y = ends-append (signed_decimal m.date.year) (codes " " ++ c) (ends-append (codes " ") c ec) in
    let eo : EndsDark o = ends-append (month_text m.date.month) (codes " " ++ y) (ends-append (codes " ") y ey) in
    let ed : EndsDark d = ends-append (two_digits m.date.day) (codes " " ++ o) (ends-append (codes " ") o eo) in
    ends-append (weekday_text (weekday_of m.date)) (codes ", " ++ d) (ends-append (codes ", ") d ed)

-- a weekday's text, and the `,` after it, begin with no blank, and it has at most three letters
weekday_begins : (n : ℕ) (t : List ℕ) → is_wsp (get_or (weekday_text n ++ 44 ∷ t) 0 0) ≡ false
weekday_begins zero t = refl
weekday_begins (suc zero) t = refl
weekday_begins (suc (suc zero)) t = refl
weekday_begins (suc (suc (suc zero))) t = refl
weekday_begins (suc (suc (suc (suc zero)))) t = refl
weekday_begins (suc (suc (suc (suc (suc zero))))) t = refl
weekday_begins (suc (suc (suc (suc (suc (suc zero)))))) t = refl
weekday_begins (suc (suc (suc (suc (suc (suc (suc n))))))) t = refl

item_short : (ts : List (List ℕ)) (i : ℕ) → list_all (λ t. nat_le (length t) 3) ts ≡ true → length (get_or ts i []) ≤ 3
item_short [] i h = omega arith
item_short (t ∷ ts) zero h = let k = (and_parts (nat_le (length t) 3) (list_all (λ t. nat_le (length t) 3) ts) h).0 in grind (arith, nat_tests)
item_short (t ∷ ts) (suc i) h = item_short ts i (and_parts (nat_le (length t) 3) (list_all (λ t. nat_le (length t) 3) ts) h).1

weekday_short : (n : ℕ) → length (weekday_text n) ≤ 3
weekday_short n = item_short (codes "Mon" ∷ codes "Tue" ∷ codes "Wed" ∷ codes "Thu" ∷ codes "Fri" ∷ codes "Sat" ∷ codes "Sun" ∷ []) n refl

month_short : (n : ℕ) → length (month_text n) ≤ 3
month_short n =
    item_short
    (codes "Jan" ∷ codes "Feb" ∷ codes "Mar" ∷ codes "Apr" ∷ codes "May" ∷ codes "Jun"
    ∷ codes "Jul" ∷ codes "Aug" ∷ codes "Sep" ∷ codes "Oct" ∷ codes "Nov" ∷ codes "Dec" ∷ []) (n - 1) refl

year_short : (y : ℤ) → IsYear y → length (signed_decimal y) ≤ 6
year_short (pos k) h = omega (arith, length-decimal-le 5 k (omega arith) (omega (arith, signed_arith, h)) (omega (arith, signed_arith, h)))
year_short (negsuc k) h = omega (arith, length-decimal-le 5 (suc k) (omega arith) (omega (arith, signed_arith, h)) (omega (arith, signed_arith, h)))

date_short : (m : DateTime) → length (moment_text m) ≤ 1024
date_short m =
    let w = weekday_short (weekday_of m.date) in
    let o = month_short m.date.month in
    let y = year_short m.date.year m.date.year_in in
    let c : List ℕ = clock_text m.time.hour m.time.minute m.time.second ++ codes " GMT" in
    let l1 = length-append (weekday_text (weekday_of m.date)) (codes ", " ++ (two_digits m.date.day ++ (codes " " ++ (month_text m.date.month ++ (codes " " ++ (signed_decimal m.date.year ++ (codes " " ++ c))))))) in
    let l2 = length-append (month_text m.date.month) (codes " " ++ (signed_decimal m.date.year ++ (codes " " ++ c))) in
    let l3 = length-append (signed_decimal m.date.year) (codes " " ++ c) in
    omega arith

plain_date : (m : DateTime) → IsPlainValue (moment_text m)
plain_date m =
    record {
      whole = date_lacks_semicolon m;
      quiet = all-weaker is_date_byte is_quiet date_byte_is_quiet (moment_text m) (date_passes m);
      trimmed = trim_wsp-dark (moment_text m) (date_ends m).0 (weekday_begins (weekday_of m.date) _) (date_ends m).1;
      short = date_short m;
    }

pub expires_part : (o : Option Expiration) → IsPart (λ a. record a { expires = option_or (printed_moment o) a.expires }) (attribute_text (codes "; Expires=") (expiry_text o))
unfolding with_piece with_attribute cut trim_wsp
expires_part None = no_part
expires_part (Some expiration.Session) = no_part
expires_part (Some (expiration.DateTime m)) =
    let plain = plain_date m in
    value_part _ (codes " Expires=") (moment_text m) refl refl plain
    (λ a. (λ i. cond (nat_lt 1024 (length (plain.trimmed i))) a (record a { expires = option_or (cookie_date_of (plain.trimmed i)) a.expires }))
    ∙ cond-false _ _ _ (not_long (moment_text m) plain.short))
