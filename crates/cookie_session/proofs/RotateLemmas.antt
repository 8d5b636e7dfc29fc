-- What a ring opens once a key came in front, or the last one left.
use Rattle.std.proofs.Common.{◌≡◌, ℕ, zero, suc, ◌<◌, ◌≤◌, List, [], ◌∷◌, ◌++◌, length, Option, None, Some, ⊎_elim, arith, refl, sym, subst}
use Rattle.std.proofs.lemmas.Bool.{cases_lt}
use Rattle.std.proofs.lemmas.Option.{slice_get_past}
use Rattle.std.specs.Option.{option_to_list}
use Rattle.std.specs.Prelude.{IfSome, MatchOption, slice_get}
use Rattle.cookie.specs.Keys.{encryption_half}
use Rattle.cookie_session.specs.KeyRing.{IsSealedUnder, KeyOpensText, LeavesOpening, OpensTextAt}

get_front : (xs ys : List (List ℕ)) (i : ℕ) → i < length xs → slice_get (xs ++ ys) i ≡ slice_get xs i
get_front [] ys i below = absurd (omega arith)
get_front (x ∷ xs) ys zero below = refl
get_front (x ∷ xs) ys (suc i) below = get_front xs ys i (omega arith)

-- what another key opened is opened still, and nothing else
pub left_retired : (key : List ℕ) (old ring : List (List ℕ)) → old ≡ ring ++ key ∷ [] → LeavesOpening old ring
left_retired key old ring is purpose place name text v = (
  λ opens.
      let inside : place < length ring = ⊎_elim (λ (lt : place < length ring). lt) (λ (ge : length ring ≤ place). absurd (past place ge opens.opens)) (cases_lt place (length ring)) in (
        subst (λ r. OpensTextAt purpose r place name text v) (sym is) (record {
          opens = there place v inside opens.opens;
          first = λ newer w below h. opens.first newer w below (back newer w (omega arith) h);
        }),
        inside,
      ),
  λ both.
      let opens : OpensTextAt purpose (ring ++ key ∷ []) place name text v = subst (λ r. OpensTextAt purpose r place name text v) is both.0 in
      let inside : place < length ring = both.1 in
      record {
        opens = back place v inside opens.opens;
        first = λ newer w below h. opens.first newer w below (there newer w (omega arith) h);
      },
)
  where
    past : (p : ℕ) → length ring ≤ p → ¬ (KeyOpensText purpose ring p name text v)
    past p ge h = subst (λ o. MatchOption o ⊥ (λ k. IsSealedUnder purpose (encryption_half k) name text v)) (slice_get_past ring p ge) h

    there : (p : ℕ) (w : List ℕ) → p < length ring → KeyOpensText purpose ring p name text w → KeyOpensText purpose (ring ++ key ∷ []) p name text w
    there p w below h = subst (λ o. MatchOption o ⊥ (λ k. IsSealedUnder purpose (encryption_half k) name text w)) (sym (get_front ring (key ∷ []) p below)) h

    back : (p : ℕ) (w : List ℕ) → p < length ring → KeyOpensText purpose (ring ++ key ∷ []) p name text w → KeyOpensText purpose ring p name text w
    back p w below h = subst (λ o. MatchOption o ⊥ (λ k. IsSealedUnder purpose (encryption_half k) name text w)) (get_front ring (key ∷ []) p below) h

-- so it is once the last key, if any, was taken
pub retired : (old ring : List (List ℕ)) (popped : Option (List ℕ)) → old ≡ ring ++ option_to_list popped → IfSome popped (λ key. LeavesOpening old ring)
retired old ring None is = tt
retired old ring (Some key) is = left_retired key old ring is
