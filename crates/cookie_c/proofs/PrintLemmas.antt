-- The expiry of a cookie that is printed.
use Rattle.std.proofs.Common.{◌≡◌, ◌≤◌, ℤ, pos, ◌≤ℤ◌, ◌+ℤ◌, ◌*ℤ◌, false, cond, List, ℕ, Some, option_map, inl, inr, ap, sym, subst, ◌∙◌, arith}
use Rattle.std.specs.Prelude.{int_lt}
use Rattle.std.proofs.lemmas.Int.{ints}
use Rattle.jiff.specs.Types.{DateTime}
use Rattle.jiff.specs.Words.{IsDate, IsTime, epoch_day, time_nanos, civil_nanos}
use Rattle.jiff.proofs.Family.{epoch_day_range, epoch_day_same, same_date, same_time, civil_nanos-parts, days_from_civil-max}
use Rattle.cookie.specs.Moments.{last_moment}
use Rattle.cookie.specs.Expiration.{last_expiry, capped_moment, capped_expiry}
use Rattle.cookie.specs.Types.{AtDateTime}
use Rattle.cookie_c.specs.Prints.{AreCodes, AreTexts, ExpiresAt, HasDate, IsMoment, IsMomentOf, IsUnprintable, option_of}
use Rattle.cookie_c.specs.declared.attributes.Attributes.{Attributes}
use Rattle.cookie_c.specs.declared.date.Moment.{Moment}
use Rattle.cookie_c.specs.declared.status.Status.{Status}
use Rattle.cookie_c.specs.declared.status.Status.TheVariants as status

not_later : (a b : ℤ) → b ≤ℤ a → int_lt a b ≡ false
not_later a b h = grind (arith, ints)

-- a date and time in whole seconds isn't later than the last expiry
pub capped_moment-whole : (moment : DateTime) → moment.time.subsec_nanosecond ≡ 0 → capped_moment moment ≡ moment
unfolding last_expiry last_moment
capped_moment-whole moment whole =
    let early : epoch_day moment.date ≤ℤ pos 2_932_896 = (epoch_day_range moment.date).1 in
    let clock : time_nanos moment.time ≤ 86_399_000_000_000 = omega (arith, moment.time.hour_in, moment.time.minute_in, moment.time.second_in) in
    let last : civil_nanos last_expiry ≡ pos 2_932_896 *ℤ pos 86_400_000_000_000 +ℤ pos 86_399_999_999_000 =
    civil_nanos-parts last_expiry ∙ ap (λ day. day *ℤ pos 86_400_000_000_000 +ℤ pos 86_399_999_999_000) days_from_civil-max in
    let here = civil_nanos-parts moment in
    let before : civil_nanos moment ≤ℤ civil_nanos last_expiry = omega (arith, ints, last, here) in
    ap (λ b. cond b last_expiry moment) (not_later (civil_nanos last_expiry) (civil_nanos moment) before)

-- two dates and times of the same numbers are one
pub moment-only : (numbers : Moment) (one other : DateTime) → IsMomentOf numbers one → IsMomentOf numbers other → one ≡ other
moment-only numbers one other a b =
    let day : epoch_day one.date ≡ epoch_day other.date = epoch_day_same one.date other.date (omega (arith, ints)) (omega (arith, ints)) (omega (arith, ints)) in
    let nanos : time_nanos one.time ≡ time_nanos other.time = omega (arith, ints) in
    λ i. record { date = same_date one.date other.date day i; time = same_time one.time other.time nanos i }

-- a date and time has the numbers of one
moment-is : (numbers : Moment) (moment : DateTime) → IsMomentOf numbers moment → IsMoment numbers
moment-is numbers moment h =
    let date = moment.date in
    let time = moment.time in
    let ymd : IsDate date.year (pos date.month) (pos date.day) =
    (date.year_in, (omega (arith, ints, date.month_in), omega (arith, ints, date.month_in)), (omega (arith, ints, date.day_in), omega (arith, ints, date.day_in))) in
    let hms : IsTime (pos time.hour) (pos time.minute) (pos time.second) (pos 0) =
    ((omega (arith, ints), omega (arith, ints, time.hour_in)), (omega (arith, ints), omega (arith, ints, time.minute_in)), (omega (arith, ints), omega (arith, ints, time.second_in)), (omega (arith, ints), omega (arith, ints))) in (
      subst (λ y. IsDate y numbers.month numbers.day) h.0.0 (subst (λ m. IsDate date.year m numbers.day) h.0.1 (subst (λ d. IsDate date.year (pos date.month) d) h.0.2 ymd)),
      subst (λ a. IsTime a numbers.minute numbers.second (pos 0)) h.1.0 (subst (λ m. IsTime (pos time.hour) m numbers.second (pos 0)) h.1.1 (subst (λ s. IsTime (pos time.hour) (pos time.minute) s (pos 0)) h.1.2 hms)),
    )

-- such parts aren't refused
pub printable : (name value path domain : List ℕ) (numbers : Attributes) (why : Status) (moment : DateTime) → AreCodes numbers → ExpiresAt numbers moment
    → AreTexts name value path domain numbers → ¬ (IsUnprintable name value path domain numbers why)
printable name value path domain numbers why moment codes at texts (inl h) = h.1 codes
printable name value path domain numbers why moment codes at texts (inr (inl h)) = h.2 (λ is. moment-is numbers.expires moment (at is))
printable name value path domain numbers why moment codes at texts (inr (inr h)) = h.3 texts

-- texts that aren't UTF-8 are refused for that
pub texts_refusal : (name value path domain : List ℕ) (numbers : Attributes) (why : Status) → AreCodes numbers → HasDate numbers
    → ¬ (AreTexts name value path domain numbers) → IsUnprintable name value path domain numbers why → why ≡ status.NotUtf8
texts_refusal name value path domain numbers why codes date bad (inl h) = absurd (h.1 codes)
texts_refusal name value path domain numbers why codes date bad (inr (inl h)) = absurd (h.2 date)
texts_refusal name value path domain numbers why codes date bad (inr (inr h)) = h.0

-- the expiry that is set is the one of the numbers
pub expiry-whole : (numbers : Attributes) (made : DateTime) → numbers.has_expires ≡ 1 → IsMomentOf numbers.expires made
    → (moment : DateTime) → ExpiresAt numbers moment
    → option_map capped_expiry (Some (AtDateTime made)) ≡ option_of numbers.has_expires (AtDateTime moment)
expiry-whole numbers made is here moment at =
    let whole : made.time.subsec_nanosecond ≡ 0 = omega (arith, ints, here.1.3) in
    ap (λ m. Some (AtDateTime m)) (capped_moment-whole made whole ∙ moment-only numbers.expires made moment here (at is))
    ∙ sym (ap (λ n. option_of n (AtDateTime moment)) is)
