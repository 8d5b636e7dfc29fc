-- `days_later` is the one date-time that is this many days later.
use Rattle.std.proofs.Common.{◌≡◌, ℕ, zero, suc, ◌≤◌, Bool, true, false, cond, refl, sym, ◌∙◌, arith, ℤ, pos, negsuc, neg_ℤ, ◌+ℤ◌, ◌≤ℤ◌, int_lt, unsigned_abs}
use Rattle.std.proofs.lemmas.Int.{ints, by_lt_z}
use Rattle.jiff.specs.Types.{DateTime, Date}
use Rattle.jiff.specs.Words.{epoch_day}
use Rattle.jiff.proofs.Family.{days_from_civil-min, same_date, same_time}
use Rattle.jiff.proofs.SpanFacts.{signed_arith}
use Rattle.cookie_date.specs.Days.{IsFirstMoment, IsLastMoment, IsDaysLater}
use Rattle.cookie_date.specs.Moments.{date_later, first_moment, last_moment, days_later}
use Rattle.cookie_date.proofs.CalendarLemmas.{epoch_day-next_date}

first_moment-is : IsFirstMoment first_moment
unfolding first_moment
first_moment-is = ((refl, refl, refl), refl)

last_moment-is : IsLastMoment last_moment
unfolding last_moment
last_moment-is = ((refl, refl, refl), refl)

epoch_day-first_moment : epoch_day first_moment.date ≡ neg_ℤ (pos 4_371_587)
unfolding first_moment
epoch_day-first_moment = days_from_civil-min

-- counting days moves the day number
epoch_day-date_later : (first : Date) → epoch_day first ≡ neg_ℤ (pos 4_371_587) → (k : ℕ) → k ≤ 7_304_483 → epoch_day (date_later first k) +ℤ pos 4_371_587 ≡ pos k
unfolding date_later
epoch_day-date_later first low zero h = omega (arith, signed_arith)
epoch_day-date_later first low (suc k) h =
    let before = epoch_day-date_later first low k (omega arith) in
    let step = epoch_day-next_date (date_later first k) (omega (arith, signed_arith)) in
    omega (arith, signed_arith)

from_zero : (z : ℤ) → pos 0 ≤ℤ z → pos (unsigned_abs z) ≡ z
from_zero (pos k) h = refl
from_zero (negsuc k) h = absurd (omega (arith, signed_arith))

-- `days_later` is this many days later
pub days_later-is : (m : DateTime) (n : ℤ) → IsDaysLater m n (days_later m n)
unfolding days_later
days_later-is m n = by_day (epoch_day m.date +ℤ n) refl
  where
    counted : ℤ → DateTime
    counted day = record { date = date_later first_moment.date (unsigned_abs (day +ℤ pos 4_371_587)); time = m.time }

    by_day : (day : ℤ) → epoch_day m.date +ℤ n ≡ day → IsDaysLater m n (cond (int_lt day (neg_ℤ (pos 4_371_587))) first_moment (cond (int_lt (pos 2_932_896) day) last_moment (counted day)))
    by_day day is = go (int_lt day (neg_ℤ (pos 4_371_587))) (int_lt (pos 2_932_896) day) refl refl
      where
        go : (low high : Bool) → int_lt day (neg_ℤ (pos 4_371_587)) ≡ low → int_lt (pos 2_932_896) day ≡ high → IsDaysLater m n (cond low first_moment (cond high last_moment (counted day)))
        go true high e f = record { within = λ h. absurd (omega (arith, ints)); above = λ h. absurd (omega (arith, ints)); below = λ h. first_moment-is }
        go false true e f = record { within = λ h. absurd (omega (arith, ints)); above = λ h. last_moment-is; below = λ h. absurd (omega (arith, ints)) }
        go false false e f =
            let from : pos 0 ≤ℤ (day +ℤ pos 4_371_587) = omega (arith, ints) in
            let to : day ≤ℤ pos 2_932_896 = omega (arith, ints) in
            let back = from_zero (day +ℤ pos 4_371_587) from in
            let there = epoch_day-date_later first_moment.date (epoch_day-first_moment) (unsigned_abs (day +ℤ pos 4_371_587)) (omega (arith, signed_arith)) in
            let on_day : epoch_day (counted day).date ≡ epoch_day m.date +ℤ n = omega (arith, signed_arith) in
            record { within = λ h. (on_day, refl); above = λ h. absurd (omega (arith, signed_arith)); below = λ h. absurd (omega (arith, signed_arith)) }

-- date-times with one day number and one time of day are one
same_moment : (a b : DateTime) → epoch_day a.date ≡ epoch_day b.date → a.time ≡ b.time → a ≡ b
same_moment a b day time = λ i. record { date = same_date a.date b.date day i; time = time i }

same_first : (a b : DateTime) → IsFirstMoment a → IsFirstMoment b → a ≡ b
same_first a b first one =
    let day : epoch_day a.date ≡ epoch_day b.date = rw (first.0.0, first.0.1, first.0.2, one.0.0, one.0.1, one.0.2) refl in
    same_moment a b day (same_time a.time b.time (first.1 ∙ sym one.1))

same_last : (a b : DateTime) → IsLastMoment a → IsLastMoment b → a ≡ b
same_last a b last one =
    let day : epoch_day a.date ≡ epoch_day b.date = rw (last.0.0, last.0.1, last.0.2, one.0.0, one.0.1, one.0.2) refl in
    same_moment a b day (same_time a.time b.time (last.1 ∙ sym one.1))

-- one date-time alone is this many days later
same_days_later : (m a b : DateTime) (n : ℤ) → IsDaysLater m n a → IsDaysLater m n b → a ≡ b
same_days_later m a b n p q =
    let day : ℤ = epoch_day m.date +ℤ n in
    by_lt_z day (neg_ℤ (pos 4_371_587)) (λ low. same_first a b (p.below low) (q.below low))
    (λ from. by_lt_z (pos 2_932_896) day (λ high. same_last a b (p.above high) (q.above high))
    (λ to. let here = p.within (from, to) in let there = q.within (from, to) in
    same_moment a b (here.0 ∙ sym there.0) (here.1 ∙ sym there.1)))

-- and no other is
pub days_later-only : (m : DateTime) (n : ℤ) (d : DateTime) → IsDaysLater m n d → d ≡ days_later m n
days_later-only m n d is = same_days_later m d (days_later m n) n is (days_later-is m n)
