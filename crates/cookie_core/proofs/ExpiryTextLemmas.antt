-- What a printed expiry is read as: a date-time that is never earlier (RFC 6265 5.1.1).
use Rattle.std.proofs.Common.{◌≡◌, ◌⊎◌, ℤ, pos, negsuc, ◌*ℤ◌, ◌+ℤ◌, ◌<ℤ◌, ◌≤ℤ◌, ◌+◌, Option, Some, None, refl, sym, ap, ◌∙◌, subst, inl, inr, arith}
use Rattle.std.proofs.lemmas.Bool.{cases_lt}
use Rattle.std.proofs.lemmas.Bool.Decides.{nat_tests}
use Rattle.jiff.proofs.Family.{epoch_day-lt, civil_nanos-lt, civil_nanos-parts}
use Rattle.jiff.proofs.SpanFacts.{signed_arith}
use Rattle.jiff.specs.Types.{DateTime}
use Rattle.jiff.specs.Words.{civil_nanos, epoch_day, time_nanos}
use Rattle.cookie_date.specs.Forms.{full_year, IsReadBack}
use Rattle.cookie_date.proofs.DateLemmas.{same_parts_date}
use Rattle.cookie_date.proofs.PrintLemmas.{read_back, long_year}
use Rattle.cookie_core.specs.Expiration.{whole_second}
use Rattle.cookie_core.specs.Normal.{whole_expiry, KeepsYear, IsExpiryReadBack}
use Rattle.cookie_core.specs.declared.expiration.Expiration.{Expiration}
use Rattle.cookie_core.specs.declared.expiration.Expiration.TheVariants as expiration

-- what the printed expiry is read as
abbrev pub read_expiry : Option Expiration → Option Expiration
read_expiry (Some (expiration.DateTime m)) = Some (expiration.DateTime (read_back m).0)
read_expiry _ = None

pub read_expiry-is : (e : Option Expiration) → IsExpiryReadBack e (read_expiry e)
read_expiry-is None = tt
read_expiry-is (Some expiration.Session) = tt
read_expiry-is (Some (expiration.DateTime m)) = (read_back m).1

-- there is one such date-time
same_read_back : (m a b : DateTime) → IsReadBack m a → IsReadBack m b → a ≡ b
same_read_back m a b p q = same_parts_date a b (p.0 ∙ sym q.0) (p.1 ∙ sym q.1) (p.2 ∙ sym q.2) (p.3 ∙ sym q.3) (p.4 ∙ sym q.4) (p.5 ∙ sym q.5) (p.6 ∙ sym q.6)

-- with a long year it is the same date-time, in whole seconds
pub read_expiry-long : (e : Option Expiration) → KeepsYear e → read_expiry e ≡ whole_expiry e
read_expiry-long None h = refl
read_expiry-long (Some expiration.Session) h = refl
read_expiry-long (Some (expiration.DateTime m)) h =
    let same : IsReadBack m (whole_second m) = (sym (long_year m.date.year h), refl, refl, refl, refl, refl, refl) in
    ap (λ z. Some (expiration.DateTime z)) (same_read_back m (read_back m).0 (whole_second m) (read_back m).1 same)

-- the year of the rule is the same or a later one
same_or_later : (y : ℤ) → (full_year y ≡ y) ⊎ (y <ℤ full_year y)
same_or_later (negsuc n) = inl refl
same_or_later (pos n) =
    elim (cases_lt n 70) [
      | inl a ↦ let e : full_year (pos n) ≡ pos (n + 2000) = grind (arith, nat_tests) in inr (rw e (omega (arith, signed_arith)))
      | inr a ↦ elim (cases_lt n 100) [
        | inl b ↦ let e : full_year (pos n) ≡ pos (n + 1900) = grind (arith, nat_tests) in inr (rw e (omega (arith, signed_arith)))
        | inr b ↦ inl (long_year (pos n) (inr (omega (arith, signed_arith))))
      ]
    ]

-- so what is read back of a date-time is never earlier than it
pub never_earlier : (m back : DateTime) → IsReadBack m back → civil_nanos (whole_second m) ≤ℤ civil_nanos (whole_second back)
never_earlier m back is =
    let a : DateTime = whole_second m in
    let b : DateTime = whole_second back in
    elim (same_or_later m.date.year) [
      | inl e ↦
          let day : epoch_day b.date ≡ epoch_day a.date = rw (is.0, is.1, is.2, e) refl in
          let time : time_nanos b.time ≡ time_nanos a.time = rw (is.3, is.4, is.5) refl in
          let q : civil_nanos b ≡ civil_nanos a = civil_nanos-parts b ∙ ap (λ z. z *ℤ pos 86_400_000_000_000 +ℤ pos (time_nanos b.time)) day ∙ ap (λ z. epoch_day a.date *ℤ pos 86_400_000_000_000 +ℤ pos z) time ∙ sym (civil_nanos-parts a) in
          rw q (omega (arith, signed_arith))
      | inr lt ↦
          let later : m.date.year <ℤ back.date.year = subst (λ y. m.date.year <ℤ y) (sym is.0) lt in
          let l : civil_nanos a <ℤ civil_nanos b = civil_nanos-lt a b (epoch_day-lt a.date b.date (inl later)) in
          omega (arith, signed_arith, l)
    ]
