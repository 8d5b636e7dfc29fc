-- What a ring of keys opens.
use Rattle.std.proofs.Common.{◌≡◌, ◌↔◌, ℕ, ◌+◌, ◌<◌, ◌≤◌, List, [], ◌∷◌, length, Option, None, Some, Result, alloc_error, option_map, ⊎_elim, arith, refl, sym, ap, subst, ◌∙◌}
use Rattle.std.proofs.lemmas.Bool.{cases_lt}
use Rattle.std.proofs.lemmas.Option.{none-some, same_Some, slice_get_past}
use Rattle.std.specs.Prelude.{MatchOption, slice_get}
use Rattle.std.specs.declared.alloc.AllocError.{AllocError}
use Rattle.cookie.specs.AnswersExactly.{with_value}
use Rattle.cookie.specs.Keys.{encryption_half}
use Rattle.cookie.specs.Memory.{Gives}
use Rattle.cookie.specs.Prefixes.{pair_of}
use Rattle.cookie.specs.Record.{Record}
use Rattle.cookie_session.specs.KeyRing.{IsSealedUnder, KeyOpensText, OpensAt, OpensExactly, OpensTextAt, newest}
use Rattle.cookie_session.specs.OpenedText.{text_opened_at}
use Rattle.cookie_session.specs.declared.opened_text.OpenedText.{OpenedText}
use Rattle.cookie_session.specs.declared.opening.Opening.{Opening}

module _ (purpose : Option (List ℕ)) (ring : List (List ℕ)) (name text : List ℕ) where
  -- the text stands for this value under half of a key
  abbrev StandsFor : List ℕ → List ℕ → Type 0
  StandsFor half v = IsSealedUnder purpose half name text v

  -- what the key at a place opens
  from_key : (place : ℕ) (key : List ℕ) → slice_get ring place ≡ Some key → (v : List ℕ) → StandsFor (encryption_half key) v → KeyOpensText purpose ring place name text v
  from_key place key at v is = subst (λ o. MatchOption o ⊥ (λ k. StandsFor (encryption_half k) v)) (sym at) is

  to_key : (place : ℕ) (key : List ℕ) → slice_get ring place ≡ Some key → (v : List ℕ) → KeyOpensText purpose ring place name text v → StandsFor (encryption_half key) v
  to_key place key at v is = subst (λ o. MatchOption o ⊥ (λ k. StandsFor (encryption_half k) v)) at is

  -- there is no key past the end
  no_key : (place : ℕ) → length ring ≤ place → (v : List ℕ) → ¬ (KeyOpensText purpose ring place name text v)
  no_key place past v is = subst (λ o. MatchOption o ⊥ (λ k. StandsFor (encryption_half k) v)) (slice_get_past ring place past) is

  -- no key before this place opens the text
  abbrev pub NoneBefore : ℕ → Type 0
  NoneBefore place = (newer : ℕ) (w : List ℕ) → newer < place → ¬ (KeyOpensText purpose ring newer name text w)

  -- this is what a key finds in the text
  abbrev pub Finds : List ℕ → Option (List ℕ) → Type 0
  Finds half found = (v : List ℕ) → (found ≡ Some v) ↔ StandsFor half v

  -- nor does this one
  pub none_next : (place : ℕ) (key : List ℕ) → slice_get ring place ≡ Some key → NoneBefore place → Finds (encryption_half key) None → NoneBefore (place + 1)
  none_next place key at none finds newer w below is =
      ⊎_elim (λ (lt : newer < place). none newer w lt is)
      (λ (ge : place ≤ newer).
      let same : newer ≡ place = omega arith in
      none-some w ((finds w).1 (to_key place key at w (subst (λ n. KeyOpensText purpose ring n name text w) same is))))
      (cases_lt newer place)

  -- the answer where a key opens that no newer one does before
  pub opened_here : (place : ℕ) (key : List ℕ) → slice_get ring place ≡ Some key → NoneBefore place → (value : List ℕ) → Finds (encryption_half key) (Some value)
      → (p : ℕ) (v : List ℕ) → (◌≡◌ {A = Option (ℕ × List ℕ)} (Some (place, value)) (Some (p, v))) ↔ OpensTextAt purpose ring p name text v
  opened_here place key at none value finds p v = (
    λ e.
        let given : (place, value) ≡ (p, v) = same_Some (place, value) (p, v) e in
        let same_place : place ≡ p = ap (λ (t : ℕ × List ℕ). t.0) given in
        let same_value : value ≡ v = ap (λ (t : ℕ × List ℕ). t.1) given in
        subst (λ w. OpensTextAt purpose ring p name text w) same_value (subst (λ n. OpensTextAt purpose ring n name text value) same_place (record { opens = opens; first = none })),
    λ is.
        ⊎_elim (λ (lt : p < place). absurd (none p v lt is.opens))
        (λ (ge : place ≤ p).
        ⊎_elim (λ (lt : place < p). absurd (is.first place value lt opens))
        (λ (le : p ≤ place).
        let same_place : p ≡ place = omega arith in
        let same_value : value ≡ v = same_Some value v ((finds v).1 (to_key place key at v (subst (λ n. KeyOpensText purpose ring n name text v) same_place is.opens))) in
        λ i. Some (sym same_place i, same_value i))
        (cases_lt place p))
        (cases_lt p place),
  )
    where
      opens : KeyOpensText purpose ring place name text value
      opens = from_key place key at value ((finds value).0 refl)

  -- the answer where none does
  pub opened_nowhere : (place : ℕ) → length ring ≤ place → NoneBefore place → (p : ℕ) (v : List ℕ)
      → (◌≡◌ {A = Option (ℕ × List ℕ)} None (Some (p, v))) ↔ OpensTextAt purpose ring p name text v
  opened_nowhere place all none p v = (
    λ e. absurd (none-some (p, v) e),
    λ is. ⊎_elim (λ (lt : p < place). absurd (none p v lt is.opens)) (λ (ge : place ≤ p). absurd (no_key p (omega arith) v is.opens)) (cases_lt p place),
  )

-- what is found under this half of a key
pub found_under : (purpose : Option (List ℕ)) (name text sealer half : List ℕ) (found : Option (List ℕ)) → sealer ≡ half
    → ((v : List ℕ) → (found ≡ Some v) ↔ IsSealedUnder purpose sealer name text v) → (v : List ℕ) → (found ≡ Some v) ↔ IsSealedUnder purpose half name text v
found_under purpose name text sealer half found same finds = subst (λ k. (v : List ℕ) → (found ≡ Some v) ↔ IsSealedUnder purpose k name text v) same finds

-- what is found in a text, if memory didn't run out
abbrev pub FindsText : Option (List ℕ) → List (List ℕ) → List ℕ → List ℕ → Result (Option OpenedText) AllocError → Type 0
FindsText purpose ring name text result =
    Gives alloc_error result (λ answer. (place : ℕ) (value : List ℕ) → (option_map text_opened_at answer ≡ Some (place, value)) ↔ OpensTextAt purpose ring place name text value)

-- for this purpose, and in this text
pub found_as : (had purpose : Option (List ℕ)) (ring : List (List ℕ)) (name read text : List ℕ) (result : Result (Option OpenedText) AllocError) → had ≡ purpose → read ≡ text
    → FindsText had ring name read result → FindsText purpose ring name text result
found_as had purpose ring name read text result same_purpose same_text finds =
    subst (λ p. FindsText p ring name text result) same_purpose (subst (λ t. FindsText had ring name t result) same_text finds)

-- this is found in a cookie's value
abbrev pub FindsIn : Option (List ℕ) → List (List ℕ) → Record → Option (ℕ × List ℕ) → Type 0
FindsIn purpose ring cookie found = (p : ℕ) (v : List ℕ) → (found ≡ Some (p, v)) ↔ OpensAt purpose ring p cookie v

-- so it is where name and value are the cookie's
pub found_in : (purpose : Option (List ℕ)) (ring : List (List ℕ)) (cookie : Record) (name text : List ℕ) (found : Option (ℕ × List ℕ)) → name ≡ cookie.name → text ≡ cookie.value
    → ((p : ℕ) (v : List ℕ) → (found ≡ Some (p, v)) ↔ OpensTextAt purpose ring p name text v) → FindsIn purpose ring cookie found
found_in purpose ring cookie name text found named valued finds =
    subst (λ t. (p : ℕ) (v : List ℕ) → (found ≡ Some (p, v)) ↔ OpensTextAt purpose ring p cookie.name t v) valued
    (subst (λ n. (p : ℕ) (v : List ℕ) → (found ≡ Some (p, v)) ↔ OpensTextAt purpose ring p n text v) named finds)

-- the answer to a cookie in whose value nothing was found
pub unopened_cookie : (purpose : Option (List ℕ)) (ring : List (List ℕ)) (cookie : Record) → FindsIn purpose ring cookie None → OpensExactly purpose ring (Some cookie) None
unopened_cookie purpose ring cookie finds = record { exact = finds; kept = tt }

-- and where this was
pub opened_cookie : (purpose : Option (List ℕ)) (ring : List (List ℕ)) (cookie : Record) (value : List ℕ) (opening : Opening) → opening.cookie.fields ≡ with_value value cookie
    → FindsIn purpose ring cookie (Some (opening.place, value)) → OpensExactly purpose ring (Some cookie) (Some opening)
opened_cookie purpose ring cookie value opening made finds =
    let same : value ≡ opening.cookie.fields.value = sym (ap (λ (r : Record). r.value) made) in
    record {
      exact = subst (λ w. FindsIn purpose ring cookie (Some (opening.place, w))) same finds;
      kept = ap Some (ap (λ w. with_value w cookie) (sym same) ∙ sym made);
    }

-- what the newest key sealed is opened at place 0
pub newest_opens : (purpose : Option (List ℕ)) (ring : List (List ℕ)) → 0 < length ring → (name text v : List ℕ)
    → IsSealedUnder purpose (encryption_half (newest ring)) name text v → OpensTextAt purpose ring 0 name text v
newest_opens purpose [] some name text v is = absurd (omega arith)
newest_opens purpose (key ∷ older) some name text v is = record { opens = is; first = λ newer w below opens. absurd (omega arith) }

-- also in every cookie of that name and value
pub opened_newest : (purpose : Option (List ℕ)) (ring : List (List ℕ)) → 0 < length ring → (sealed cookie : Record) (v : List ℕ) → pair_of cookie ≡ pair_of sealed
    → IsSealedUnder purpose (encryption_half (newest ring)) sealed.name sealed.value v → OpensAt purpose ring 0 cookie v
opened_newest purpose ring some sealed cookie v same is =
    newest_opens purpose ring some cookie.name cookie.value v
    (subst (λ (p : List ℕ × List ℕ). IsSealedUnder purpose (encryption_half (newest ring)) p.0 p.1 v) (sym same) is)
