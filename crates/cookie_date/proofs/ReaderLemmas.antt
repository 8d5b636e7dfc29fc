-- The readers of the pieces. Of each, `-read` says that it reads its piece, whatever follows, and `-front` that
-- its piece stands at the front of a text of which it reads something.
use Rattle.std.proofs.Common.{◌≡◌, ℕ, zero, suc, ◌+◌, ◌-◌, ◌*◌, ◌/◌, ◌%◌, ◌<◌, ◌≤◌, ◌==◌, Bool, true, false, cond, List, [], ◌∷◌, ◌++◌, length, get_or, take, drop, Option, Some, None, option_and_then, bytes_eq, codes, refl, sym, ap, ◌∙◌, subst, arith, inl, inr, take_at, drop_at, take-append-drop}
use Rattle.std.proofs.lemmas.Bool.Decides.{nat_tests}
use Rattle.std.proofs.lemmas.Option.{none-some, same_Some}
use Rattle.std.proofs.lemmas.Slice.Eq.{bytes_eq-Decides}
use Rattle.std.specs.Int.{IsInRange, is_in_range}
use Rattle.cookie_date.specs.Names.{month_text}
use Rattle.cookie_date.specs.Text.{two_digits, clock_text}
use Rattle.cookie_date.specs.Forms.{IsDayText}
use Rattle.cookie_date.specs.Reader.{or_later, read_tag, read_digit, read_two_digits, read_padded_day, read_clock, read_gmt, read_name, read_day_month}
use Rattle.cookie_date.proofs.OptionLemmas.{through, passed}

pub tag-read : (tag rest : List ℕ) → read_tag tag (tag ++ rest) ≡ Some rest
tag-read tag rest =
    let begins = take_at tag rest (length tag) refl in
    let same = (bytes_eq-Decides tag tag).1 refl in
    rw (begins, same) (ap Some (drop_at tag rest (length tag) refl))

pub tag-front : (tag text rest : List ℕ) → read_tag tag text ≡ Some rest → text ≡ tag ++ rest
tag-front tag text rest e =
    let (same, left) = passed (bytes_eq (take (length tag) text) tag) (Some (drop (length tag) text)) rest e in
    let begins = (bytes_eq-Decides (take (length tag) text) tag).0 same in
    let ends = same_Some _ _ left in
    sym (take-append-drop (length tag) text) ∙ ap (λ t. t ++ drop (length tag) text) begins ∙ ap (λ t. tag ++ t) ends

-- a tag, and then a reader of what follows it
pub through_tag : {A : Type 0} (tag text : List ℕ) (next : List ℕ → Option A) (y : A) → option_and_then next (read_tag tag text) ≡ Some y → (after : List ℕ) × (text ≡ tag ++ after) × (next after ≡ Some y)
through_tag tag text next y e =
    let (after, tagged, more) = through next (read_tag tag text) y e in
    (after, tag-front tag text after tagged, more)

pub digit-read : (d : ℕ) (rest : List ℕ) → d < 10 → read_digit ((48 + d) ∷ rest) ≡ Some (d, rest)
unfolding read_digit
digit-read d rest small =
    let is_digit : is_in_range 48 57 (48 + d) ≡ true = grind (arith, nat_tests) in
    let means : 48 + d - 48 ≡ d = omega arith in
    rw (is_digit, means) refl

pub digit-front : (text : List ℕ) (r : ℕ × List ℕ) → read_digit text ≡ Some r → (text ≡ (48 + r.0) ∷ r.1) × (r.0 < 10)
unfolding read_digit
digit-front [] r e = absurd (none-some r e)
digit-front (c ∷ text) r e =
    let (test, is) = passed (is_in_range 48 57 c) (Some (c - 48, text)) r e in
    let range : IsInRange 48 57 c = grind (arith, nat_tests) in
    let shown : c ≡ 48 + (c - 48) = omega arith in
    subst (λ p. (c ∷ text ≡ (48 + p.0) ∷ p.1) × (p.0 < 10)) (same_Some _ _ is) (ap (λ x. x ∷ text) shown, omega arith)

pub two_digits-read : (n : ℕ) (rest : List ℕ) → n < 100 → read_two_digits (two_digits n ++ rest) ≡ Some (n, rest)
unfolding read_two_digits
two_digits-read n rest small =
    let whole : n / 10 * 10 + n % 10 ≡ n = omega arith in
    rw (digit-read (n / 10) ((48 + n % 10) ∷ rest) (omega arith), digit-read (n % 10) rest (omega arith)) (ap (λ k. Some (k, rest)) whole)

pub two_digits-front : (text : List ℕ) (r : ℕ × List ℕ) → read_two_digits text ≡ Some r → (text ≡ two_digits r.0 ++ r.1) × (r.0 < 100)
unfolding read_two_digits
two_digits-front text r e₀ =
    let (tens, got_tens, e₁) = through _ (read_digit text) r e₀ in
    let (units, got_units, e₂) = through _ (read_digit tens.1) r e₁ in
    let (high, high_in) = digit-front text tens got_tens in
    let (low, low_in) = digit-front tens.1 units got_units in
    let quotient : tens.0 ≡ (tens.0 * 10 + units.0) / 10 = omega arith in
    let remainder : units.0 ≡ (tens.0 * 10 + units.0) % 10 = omega arith in
    let shown : text ≡ two_digits (tens.0 * 10 + units.0) ++ units.1 = rw (← quotient, ← remainder) (high ∙ ap (λ t. (48 + tens.0) ∷ t) low) in
    subst (λ p. (text ≡ two_digits p.0 ++ p.1) × (p.0 < 100)) (same_Some _ _ e₂) (shown, omega arith)

pub padded_day-read : (padded rest : List ℕ) (day : ℕ) → IsDayText padded day → day < 100 → read_padded_day (padded ++ rest) ≡ Some (day, rest)
unfolding read_padded_day
padded_day-read padded rest day (inl two) small =
    let no_blank : (48 + day / 10 == 32) ≡ false = grind (arith, nat_tests) in
    rw two (rw no_blank (two_digits-read day rest small))
padded_day-read padded rest day (inr (one, blank)) small = rw blank (digit-read day rest one)

pub padded_day-front : (text : List ℕ) (r : ℕ × List ℕ) → read_padded_day text ≡ Some r → (padded : List ℕ) × (text ≡ padded ++ r.1) × (r.0 < 100) × IsDayText padded r.0
unfolding read_padded_day
padded_day-front text r e = by_blank (get_or text 0 0 == 32) e
  where
    by_blank : (blank : Bool) → cond blank (option_and_then read_digit (read_tag (32 ∷ []) text)) (read_two_digits text) ≡ Some r → (padded : List ℕ) × (text ≡ padded ++ r.1) × (r.0 < 100) × IsDayText padded r.0
    by_blank false e = let (shown, small) = two_digits-front text r e in (two_digits r.0, shown, small, inl refl)
    by_blank true e =
        let (after, tagged, digit) = through_tag (32 ∷ []) text read_digit r e in
        let (shown, one) = digit-front after r digit in
        (32 ∷ (48 + r.0) ∷ [], tagged ∙ ap (λ t. 32 ∷ t) shown, omega arith, inr (one, refl))

-- numbers that two digits can show
abbrev pub AreShort : ℕ × ℕ × ℕ → Type 0
AreShort clock = (clock.0 < 100) × (clock.1 < 100) × (clock.2 < 100)

pub clock-read : (clock : ℕ × ℕ × ℕ) (rest : List ℕ) → AreShort clock → read_clock (clock_text clock.0 clock.1 clock.2 ++ rest) ≡ Some (clock, rest)
unfolding read_clock
clock-read (h, m, s) rest short =
    rw (two_digits-read h _ short.0, two_digits-read m _ short.1, two_digits-read s rest short.2) refl

pub clock-front : (text : List ℕ) (r : (ℕ × ℕ × ℕ) × List ℕ) → read_clock text ≡ Some r → (text ≡ clock_text r.0.0 r.0.1 r.0.2 ++ r.1) × AreShort r.0
unfolding read_clock
clock-front text r e₀ =
    let (h, got_h, e₁) = through _ (read_two_digits text) r e₀ in
    let (m, led_m, e₂) = through _ (option_and_then read_two_digits (read_tag (58 ∷ []) h.1)) r e₁ in
    let (s, led_s, e₃) = through _ (option_and_then read_two_digits (read_tag (58 ∷ []) m.1)) r e₂ in
    let (at_m, colon, got_m) = through_tag (58 ∷ []) h.1 read_two_digits m led_m in
    let (at_s, second_colon, got_s) = through_tag (58 ∷ []) m.1 read_two_digits s led_s in
    let (hour, hour_in) = two_digits-front text h got_h in
    let (minute, minute_in) = two_digits-front at_m m got_m in
    let (second, second_in) = two_digits-front at_s s got_s in
    let from_s = second_colon ∙ ap (λ t. 58 ∷ t) second in
    let from_m = colon ∙ ap (λ t. 58 ∷ t) (minute ∙ ap (λ t. two_digits m.0 ++ t) from_s) in
    let shown = hour ∙ ap (λ t. two_digits h.0 ++ t) from_m in
    subst (λ p. (text ≡ clock_text p.0.0 p.0.1 p.0.2 ++ p.1) × AreShort p.0) (same_Some _ _ e₃) (shown, (hour_in, minute_in, second_in))

-- ` GMT`
abbrev pub zone : List ℕ
zone = codes " GMT"

pub gmt-read : (clock : ℕ × ℕ × ℕ) → AreShort clock → read_gmt (codes " " ++ (clock_text clock.0 clock.1 clock.2 ++ zone)) ≡ Some clock
unfolding read_gmt
gmt-read clock short = rw (clock-read clock zone short) refl

pub gmt-front : (text : List ℕ) (clock : ℕ × ℕ × ℕ) → read_gmt text ≡ Some clock → (text ≡ codes " " ++ (clock_text clock.0 clock.1 clock.2 ++ zone)) × AreShort clock
unfolding read_gmt
gmt-front text clock e₀ =
    let (r, led, e₁) = through _ (option_and_then read_clock (read_tag (32 ∷ []) text)) clock e₀ in
    let (at_clock, blank, got) = through_tag (32 ∷ []) text read_clock r led in
    let (last, same) = passed (bytes_eq r.1 zone) (Some r.0) clock e₁ in
    let (shown, short) = clock-front at_clock r got in
    let ends = (bytes_eq-Decides r.1 zone).0 last in
    subst (λ t. (text ≡ codes " " ++ (clock_text t.0 t.1 t.2 ++ zone)) × AreShort t) (same_Some _ _ same)
    (blank ∙ ap (λ t. 32 ∷ t) (shown ∙ ap (λ t. clock_text r.0.0 r.0.1 r.0.2 ++ t) ends), short)

-- the name of n stands at the front, so it is the one that is read
pub name-found : (name : ℕ → List ℕ) (left less n : ℕ) (text rest : List ℕ) → left ≡ suc less → Some rest ≡ read_tag (name n) text → read_name name left n text ≡ Some (n, rest)
unfolding read_name
name-found name left less n text rest more tagged = rw more (rw (← tagged) refl)

-- it does not, so the names after it are tried
pub name-missed : (name : ℕ → List ℕ) (left less n : ℕ) (text : List ℕ) → left ≡ suc less → None ≡ read_tag (name n) text → read_name name left n text ≡ read_name name less (n + 1) text
unfolding read_name
name-missed name left less n text more missing = rw more (rw (← missing) refl)

pub name-front : (name : ℕ → List ℕ) (left n : ℕ) (text : List ℕ) (r : ℕ × List ℕ) → read_name name left n text ≡ Some r → (n ≤ r.0) × (r.0 < n + left) × (text ≡ name r.0 ++ r.1)
unfolding read_name
name-front name zero n text r e = absurd (none-some r e)
name-front name (suc left) n text r e = by_tag (read_tag (name n) text) refl e (name-front name left (n + 1) text r)
  where
    by_tag : (o : Option (List ℕ)) → read_tag (name n) text ≡ o → or_later o n (read_name name left (n + 1) text) ≡ Some r → (read_name name left (n + 1) text ≡ Some r → (n + 1 ≤ r.0) × (r.0 < n + 1 + left) × (text ≡ name r.0 ++ r.1)) → (n ≤ r.0) × (r.0 < n + suc left) × (text ≡ name r.0 ++ r.1)
    by_tag (Some rest) tagged is later =
        subst (λ p. (n ≤ p.0) × (p.0 < n + suc left) × (text ≡ name p.0 ++ p.1)) (same_Some _ _ is) (omega arith, omega arith, tag-front (name n) text rest tagged)
    by_tag None tagged is later = let found = later is in (omega arith, omega arith, found.2)

pub month-read : (m : ℕ) (rest : List ℕ) → IsInRange 1 12 m → read_name month_text 12 1 (month_text m ++ rest) ≡ Some (m, rest)
unfolding read_name
month-read (suc zero) rest h = refl
month-read (suc (suc zero)) rest h = refl
month-read (suc (suc (suc zero))) rest h = refl
month-read (suc (suc (suc (suc zero)))) rest h = refl
month-read (suc (suc (suc (suc (suc zero))))) rest h = refl
month-read (suc (suc (suc (suc (suc (suc zero)))))) rest h = refl
month-read (suc (suc (suc (suc (suc (suc (suc zero))))))) rest h = refl
month-read (suc (suc (suc (suc (suc (suc (suc (suc zero)))))))) rest h = refl
month-read (suc (suc (suc (suc (suc (suc (suc (suc (suc zero))))))))) rest h = refl
month-read (suc (suc (suc (suc (suc (suc (suc (suc (suc (suc zero)))))))))) rest h = refl
month-read (suc (suc (suc (suc (suc (suc (suc (suc (suc (suc (suc zero))))))))))) rest h = refl
month-read (suc (suc (suc (suc (suc (suc (suc (suc (suc (suc (suc (suc zero)))))))))))) rest h = refl
month-read zero rest h = absurd (omega arith)
month-read (suc (suc (suc (suc (suc (suc (suc (suc (suc (suc (suc (suc (suc k))))))))))))) rest h = absurd (omega arith)

pub day_month-read : (mark rest : List ℕ) (day month : ℕ) → day < 100 → IsInRange 1 12 month → read_day_month mark (two_digits day ++ (mark ++ (month_text month ++ (mark ++ rest)))) ≡ Some ((day, month), rest)
unfolding read_day_month
day_month-read mark rest day month day_in month_in =
    rw (two_digits-read day (mark ++ (month_text month ++ (mark ++ rest))) day_in, tag-read mark (month_text month ++ (mark ++ rest)), month-read month (mark ++ rest) month_in, tag-read mark rest) refl

pub day_month-front : (mark text : List ℕ) (r : (ℕ × ℕ) × List ℕ) → read_day_month mark text ≡ Some r → (text ≡ two_digits r.0.0 ++ (mark ++ (month_text r.0.1 ++ (mark ++ r.1)))) × (r.0.0 < 100) × IsInRange 1 12 r.0.1
unfolding read_day_month
day_month-front mark text r e₀ =
    let (day, got_day, e₁) = through _ (read_two_digits text) r e₀ in
    let (month, led, e₂) = through _ (option_and_then (read_name month_text 12 1) (read_tag mark day.1)) r e₁ in
    let (at_month, marked, got_month) = through_tag mark day.1 (read_name month_text 12 1) month led in
    let (rest, tagged, e₃) = through _ (read_tag mark month.1) r e₂ in
    let (shown_day, day_in) = two_digits-front text day got_day in
    let (from, to, shown_month) = name-front month_text 12 1 at_month month got_month in
    let again = tag-front mark month.1 rest tagged in
    let whole : text ≡ two_digits day.0 ++ (mark ++ (month_text month.0 ++ (mark ++ rest))) = cc in
    subst (λ p. (text ≡ two_digits p.0.0 ++ (mark ++ (month_text p.0.1 ++ (mark ++ p.1)))) × (p.0.0 < 100) × IsInRange 1 12 p.0.1) (same_Some _ _ e₃) (whole, day_in, (from, omega arith))
