-- What a ring of keys signed.
use Rattle.std.proofs.Common.{◌≡◌, ◌↔◌, ℕ, ◌+◌, ◌<◌, ◌≤◌, List, length, Option, None, Some, ⊎_elim, arith, refl, sym, subst}
use Rattle.std.proofs.lemmas.Bool.{cases_lt}
use Rattle.std.proofs.lemmas.Option.{none-some, slice_get_past}
use Rattle.std.specs.Prelude.{MatchOption, slice_get}
use Rattle.cookie.specs.Keys.{signing_half}
use Rattle.cookie.specs.Signing.{IsSigned}
use Rattle.cookie_session.specs.KeyRing.{IsSignedAt, IsSignedBy}

module _ (keys : List (List ℕ)) (name text : List ℕ) where
  -- the text is the signing of this value under a key
  abbrev IsUnder : List ℕ → List ℕ → Type 0
  IsUnder value key = IsSigned (signing_half key) name text value

  -- this is what a half of a key finds in the text
  abbrev pub Finds : List ℕ → Option (List ℕ) → Type 0
  Finds half found = (v : List ℕ) → (found ≡ Some v) ↔ IsSigned half name text v

  -- no key before this place signed the text
  abbrev pub NoneBefore : ℕ → Type 0
  NoneBefore place = (newer : ℕ) (v : List ℕ) → newer < place → ¬ (IsSignedAt keys newer name text v)

  -- this key did
  pub signed_here : (place : ℕ) (key half : List ℕ) → slice_get keys place ≡ Some key → half ≡ signing_half key → (value : List ℕ) → Finds half (Some value)
      → IsSignedBy keys name text value
  signed_here place key half at same value finds =
      (place, subst (λ o. MatchOption o ⊥ (IsUnder value)) (sym at) (subst (λ h. IsSigned h name text value) same ((finds value).0 refl)))

  -- nor did this one
  pub none_next : (place : ℕ) (key half : List ℕ) → slice_get keys place ≡ Some key → half ≡ signing_half key → NoneBefore place → Finds half None
      → NoneBefore (place + 1)
  none_next place key half at same none finds newer v below is =
      ⊎_elim (λ (lt : newer < place). none newer v lt is)
      (λ (ge : place ≤ newer).
      let here : newer ≡ place = omega arith in
      let under : IsUnder v key = subst (λ o. MatchOption o ⊥ (IsUnder v)) at (subst (λ n. IsSignedAt keys n name text v) here is) in
      none-some v ((finds v).1 (subst (λ h. IsSigned h name text v) (sym same) under)))
      (cases_lt newer place)

  -- none did
  pub signed_nowhere : (place : ℕ) → length keys ≤ place → NoneBefore place → (v : List ℕ) → ¬ (IsSignedBy keys name text v)
  signed_nowhere place all none v signed =
      ⊎_elim (λ (lt : signed.0 < place). none signed.0 v lt signed.1)
      (λ (ge : place ≤ signed.0).
      let past : length keys ≤ signed.0 = omega arith in
      subst (λ o. MatchOption o ⊥ (IsUnder v)) (slice_get_past keys signed.0 past) signed.1)
      (cases_lt signed.0 place)
