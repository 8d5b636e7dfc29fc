-- What printing and reading does a second and a third time.
use Rattle.std.proofs.Common.{◌≡◌, ◌↔◌, Bool, true, false, ◌&&◌, ◌||◌, ℕ, ℤ, pos, negsuc, neg_ℤ, zero, suc, ◌*◌, ◌/◌, ◌*ℤ◌, Option, Some, None, option_map, refl, sym, ap, ◌∙◌, arith}
use Rattle.std.specs.Prelude.{int_div, int_lt}
use Rattle.std.proofs.lemmas.Bool.{cond-false, false≢true}
use Rattle.std.proofs.lemmas.Bool.Decides.{nat_tests}
use Rattle.cookie_core.specs.Normal.{normal_form, true_or_unset, whole_age, whole_expiry, GainsSecure}
use Rattle.cookie_core.specs.Text.{is_true, is_unset, is_same_site_none, prints_secure}
use Rattle.cookie_core.specs.Record.{Record}
use Rattle.cookie_core.specs.declared.same_site.SameSite.{SameSite}
use Rattle.cookie_core.specs.declared.same_site.SameSite.TheVariants as same_site_of
use Rattle.cookie_core.specs.declared.expiration.Expiration.{Expiration}
use Rattle.cookie_core.specs.declared.expiration.Expiration.TheVariants as expiration
use mathlib.Core.Logic.{◌≢◌}

-- ---- each field

not_above : (q : ℕ) → int_lt (pos 0) (neg_ℤ (pos q)) ≡ false
not_above zero = refl
not_above (suc q) = refl

pub whole_age_pos : (k : ℕ) → whole_age (pos k) ≡ pos (k / 1000000000 * 1000000000)
whole_age_pos k =
    let e : int_lt (pos k) (pos 0) ≡ false = grind (arith, nat_tests) in
    cond-false _ (pos 0) (int_div (pos k) (pos 1000000000) *ℤ pos 1000000000) e

-- an age of whole seconds is above zero where its whole seconds were
pub whole_age-above : (n : ℤ) → int_lt (pos 0) (int_div (whole_age n) (pos 1000000000)) ≡ int_lt (pos 0) (int_div n (pos 1000000000))
whole_age-above (pos k) =
    let e : k / 1000000000 * 1000000000 / 1000000000 ≡ k / 1000000000 = omega arith in
    ap (λ n. int_lt (pos 0) (int_div n (pos 1000000000))) (whole_age_pos k) ∙ ap (λ m. int_lt (pos 0) (pos m)) e
whole_age-above (negsuc k) = sym (not_above (suc k / 1000000000))

whole_age-again : (n : ℤ) → whole_age (whole_age n) ≡ whole_age n
whole_age-again (pos k) =
    let e : k / 1000000000 * 1000000000 / 1000000000 * 1000000000 ≡ k / 1000000000 * 1000000000 = omega arith in
    ap whole_age (whole_age_pos k) ∙ whole_age_pos (k / 1000000000 * 1000000000) ∙ ap pos e ∙ sym (whole_age_pos k)
whole_age-again (negsuc k) = refl

age-again : (o : Option ℤ) → option_map whole_age (option_map whole_age o) ≡ option_map whole_age o
age-again None = refl
age-again (Some n) = ap Some (whole_age-again n)

expiry-again : (o : Option Expiration) → whole_expiry (whole_expiry o) ≡ whole_expiry o
expiry-again None = refl
expiry-again (Some expiration.Session) = refl
expiry-again (Some (expiration.DateTime m)) = refl

pub is_true-true_or_unset : (b : Bool) → is_true (true_or_unset b) ≡ b
is_true-true_or_unset true = refl
is_true-true_or_unset false = refl

-- whether `Secure` is printed, by secure, and whether partitioned is true and same_site `None`
abbrev shows_secure : Option Bool → Bool → Bool → Bool
shows_secure s p n = is_true s || p || (is_unset s && n)

-- and the next time
abbrev shows_again : Option Bool → Bool → Bool → Bool
shows_again s p n = shows_secure (true_or_unset (shows_secure s p n)) p n

shows-third : (s : Option Bool) (p n : Bool) → shows_secure (true_or_unset (shows_again s p n)) p n ≡ shows_again s p n
shows-third None true true = refl
shows-third None true false = refl
shows-third None false true = refl
shows-third None false false = refl
shows-third (Some true) true true = refl
shows-third (Some true) true false = refl
shows-third (Some true) false true = refl
shows-third (Some true) false false = refl
shows-third (Some false) true true = refl
shows-third (Some false) true false = refl
shows-third (Some false) false true = refl
shows-third (Some false) false false = refl

shows-second : (s : Option Bool) (p n : Bool) → ¬ ((s ≡ Some false) × (p ≡ false) × (n ≡ true)) → shows_again s p n ≡ shows_secure s p n
shows-second None true true h = refl
shows-second None true false h = refl
shows-second None false true h = refl
shows-second None false false h = refl
shows-second (Some true) true true h = refl
shows-second (Some true) true false h = refl
shows-second (Some true) false true h = refl
shows-second (Some true) false false h = refl
shows-second (Some false) true true h = refl
shows-second (Some false) true false h = refl
shows-second (Some false) false true h = absurd (h (refl, refl, refl))
shows-second (Some false) false false h = refl

not_partitioned : (o : Option Bool) → is_true o ≡ false → o ≢ Some true
not_partitioned o e q = false≢true (sym e ∙ ap is_true q)

is_false : (o : Option Bool) → o ≢ Some true → is_true o ≡ false
is_false None h = refl
is_false (Some true) h = absurd (h refl)
is_false (Some false) h = refl

same_site_is_none : (o : Option SameSite) → is_same_site_none o ≡ true → o ≡ Some same_site_of.None
same_site_is_none None e = absurd (false≢true e)
same_site_is_none (Some same_site_of.Strict) e = absurd (false≢true e)
same_site_is_none (Some same_site_of.Lax) e = absurd (false≢true e)
same_site_is_none (Some same_site_of.None) e = refl

some_not_none : Some true ≡ None → ⊥
some_not_none e = false≢true (ap is_unset e)

-- ---- the whole record

prints-second : (r : Record) → prints_secure (normal_form r) ≡ shows_again r.secure (is_true r.partitioned) (is_same_site_none r.same_site)
prints-second r = rw (is_true-true_or_unset (is_true r.partitioned)) refl

prints-third : (r : Record) → prints_secure (normal_form (normal_form r)) ≡ prints_secure (normal_form r)
prints-third r =
    let p = is_true-true_or_unset (is_true r.partitioned) in
    let e : is_true (true_or_unset (is_true (true_or_unset (is_true r.partitioned)))) ≡ is_true r.partitioned = ap (λ b. is_true (true_or_unset b)) p ∙ p in
    let s = shows-third r.secure (is_true r.partitioned) (is_same_site_none r.same_site) in
    rw (e, prints-second r) s ∙ sym (prints-second r)

-- a second normal form is the first, where both print `Secure` or both don't
normal-again : (r : Record) → prints_secure (normal_form r) ≡ prints_secure r → normal_form (normal_form r) ≡ normal_form r
normal-again r s =
    let h = is_true-true_or_unset (is_true r.http_only) in
    let p = is_true-true_or_unset (is_true r.partitioned) in
    rw (s, h, p, age-again r.max_age, expiry-again r.expires) refl

pub normal_form-third : (r : Record) → normal_form (normal_form (normal_form r)) ≡ normal_form (normal_form r)
normal_form-third r = normal-again (normal_form r) (prints-third r)

pub normal_form-second : (r : Record) → (normal_form (normal_form r) ≡ normal_form r) ↔ (¬ (GainsSecure r))
normal_form-second r = (
  λ e (odd : GainsSecure r).
      let q : true_or_unset (prints_secure (normal_form r)) ≡ true_or_unset (prints_secure r) = ap (λ (x : Record). x.secure) e in
      let again : prints_secure (normal_form r) ≡ true = rw (prints-second r, odd.0, odd.1, is_false r.partitioned odd.2) refl in
      let once : prints_secure r ≡ false = rw (odd.0, odd.1, is_false r.partitioned odd.2) refl in
      let z : Some true ≡ None = ap true_or_unset (sym again) ∙ q ∙ ap true_or_unset once in
      absurd (some_not_none z),
  λ (even : ¬ (GainsSecure r)).
      normal-again r (prints-second r ∙ shows-second r.secure (is_true r.partitioned) (is_same_site_none r.same_site) (λ (o : (r.secure ≡ Some false) × (is_true r.partitioned ≡ false) × (is_same_site_none r.same_site ≡ true)). even (same_site_is_none r.same_site o.2, o.0, not_partitioned r.partitioned o.1))),
)
