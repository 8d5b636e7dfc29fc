-- A printed cookie that is live is sent once it is stored, and one of age zero is expired.
use Rattle.std.proofs.Common.{◌≡◌, ◌&&◌, ◌<◌, min, true, false, true≢false, Bool, cond, ℕ, ℤ, pos, negsuc, ◌≤ℤ◌, ◌<ℤ◌, ◌⊎◌, inl, inr, Option, Some, None, option_map, refl, sym, ap, subst, ◌∙◌, arith}
use Rattle.std.specs.Prelude.{int_lt, int_div, ◌+ℤ◌, ◌*ℤ◌}
use Rattle.std.proofs.lemmas.Int.{by_lt_z}
use Rattle.jiff.specs.Types.{DateTime}
use Rattle.jiff.specs.Words.{civil_nanos, civil_seconds}
use Rattle.jiff.proofs.Family.{civil_nanos-civil_seconds, civil_nanos-lt, epoch_day-lt}
use Rattle.jiff.proofs.SpanFacts.{signed_arith}
use Rattle.cookie_date.specs.CookieDate.{cookie_date_of}
use Rattle.cookie_date.specs.Forms.{IsReadBack}
use Rattle.cookie_date.specs.Text.{moment_text}
use Rattle.cookie_date.proofs.PrintLemmas.{read_back}
use Rattle.cookie_date.proofs.TokenPrintLemmas.{cookie_date_printed}
use Rattle.cookie_core.specs.Expiration.{whole_second}
use Rattle.cookie_core.specs.declared.expiration.Expiration.{Expiration}
use Rattle.cookie_core.specs.declared.expiration.Expiration.TheVariants as expiration
use Rattle.cookie_core.proofs.ExpiryTextLemmas.{never_earlier}
use Rattle.cookie_browser.specs.Printed.{or_zero, printed_age, printed_moment}
use Rattle.cookie_browser.specs.PrintedStored.{IsPrintedSent, is_after_now, is_to_last}
use Rattle.cookie_browser.specs.Received.{age_limit}
use Rattle.cookie_browser.specs.Storage.{earlier_of, kept_until, lasts, seconds_after}

contrary : (a b : ℤ) → int_lt a b ≡ true → b <ℤ a → ⊥
contrary a b lt gt = grind (arith, signed_arith)

lt_le : (n a b : ℤ) → int_lt n a ≡ true → a ≤ℤ b → int_lt n b ≡ true
lt_le n a b lt le = grind (arith, signed_arith)

further : (now : DateTime) (n : ℕ) → 0 < n → int_lt (civil_nanos now) (seconds_after now n) ≡ true
further now n h = by (civil_nanos now)
  where
    by : (a : ℤ) → int_lt a (a +ℤ pos n *ℤ pos 1000000000) ≡ true
    by a = let w : pos 0 <ℤ (pos n *ℤ pos 1000000000) = omega (arith, signed_arith) in grind (arith, signed_arith)

not_further : (a : ℤ) → int_lt a (a +ℤ pos 0) ≡ false
not_further a = grind (arith, signed_arith)

both_later : (n a b : ℤ) → int_lt n a ≡ true → int_lt n b ≡ true → int_lt n (earlier_of a b) ≡ true
both_later n a b h k = by (int_lt a b)
  where
    by : (c : Bool) → int_lt n (cond c a b) ≡ true
    by true = h
    by false = k

-- a live age is a whole second or more
age_above : (w : ℤ) → int_lt (pos 0) w ≡ true → 0 < min (or_zero w) age_limit
age_above (pos k) h = let some : 0 < k = grind (arith, signed_arith) in omega arith
age_above (negsuc k) h = absurd (true≢false (sym h ∙ refl))

-- what is read back of a date-time is no earlier than it
whole_or_more : (m back : DateTime) → IsReadBack m back → civil_nanos (whole_second m) ≤ℤ civil_nanos back
unfolding civil_seconds
whole_or_more m back is =
    let whole : civil_nanos (whole_second back) ≡ civil_seconds back *ℤ pos 1_000_000_000 +ℤ pos 0 = civil_nanos-civil_seconds (whole_second back) in
    let same : civil_nanos (whole_second back) ≡ civil_nanos back
    = whole ∙ ap (λ n. civil_seconds back *ℤ pos 1_000_000_000 +ℤ pos n) (sym is.6) ∙ sym (civil_nanos-civil_seconds back) in
    subst (λ n. civil_nanos (whole_second m) ≤ℤ n) same (never_earlier m back is)

-- what is later than a moment from 1601 on is from 1601 on
still_late : (now m : DateTime) → pos 1601 ≤ℤ now.date.year → int_lt (civil_nanos now) (civil_nanos (whole_second m)) ≡ true → pos 1601 ≤ℤ m.date.year
still_late now m from later = by (by_lt_z m.date.year now.date.year inl inr)
  where
    by : (m.date.year <ℤ now.date.year) ⊎ (now.date.year ≤ℤ m.date.year) → pos 1601 ≤ℤ m.date.year
    by (inl lt) = absurd (contrary (civil_nanos now) (civil_nanos (whole_second m)) later (civil_nanos-lt (whole_second m) now (epoch_day-lt m.date now.date (inl lt))))
    by (inr le) = omega (arith, signed_arith, from, le)

later_kept : (e : Option Expiration) (now : DateTime) → pos 1601 ≤ℤ now.date.year → is_after_now e now ≡ true → lasts (kept_until now None (printed_moment e)) now ≡ true
later_kept None now from later = refl
later_kept (Some expiration.Session) now from later = refl
later_kept (Some (expiration.DateTime m)) now from later =
    let (back, is) = read_back m in
    let read : cookie_date_of (moment_text m) ≡ Some back = cookie_date_printed m back (still_late now m from later) is in
    ap (λ o. lasts (kept_until now None o) now) read
    ∙ both_later (civil_nanos now) (civil_nanos back) (seconds_after now 34560000) (lt_le (civil_nanos now) (civil_nanos (whole_second m)) (civil_nanos back) later (whole_or_more m back is)) (further now 34560000 (omega arith))

live_kept : (age : Option ℤ) (e : Option Expiration) (now : DateTime) → pos 1601 ≤ℤ now.date.year → is_to_last age e now ≡ true → lasts (kept_until now (option_map printed_age age) (printed_moment e)) now ≡ true
live_kept None e now from live = later_kept e now from live
live_kept (Some age) e now from live = further now (printed_age age) (age_above (int_div age (pos 1000000000)) live)

pub dropped : (age : Option ℤ) (e : Option Expiration) (now : DateTime) → age ≡ Some (pos 0) → lasts (kept_until now (option_map printed_age age) (printed_moment e)) now ≡ false
dropped age e now is = ap (λ o. lasts (kept_until now (option_map printed_age o) (printed_moment e)) now) is ∙ not_further (civil_nanos now)

pub printed_is_sent : IsPrintedSent
printed_is_sent rules request now r from = (
  λ seen live.
      (λ i. live_kept r.max_age r.expires now from live i && (seen.reached i && (seen.secure i && seen.permitted i))),
  λ zero. dropped r.max_age r.expires now zero,
)
