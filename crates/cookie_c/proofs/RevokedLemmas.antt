-- The opened sessions one after the other: their ids, and the first whose id isn't one of some others.
use Rattle.std.proofs.Common.{◌≡◌, ℕ, ◌+◌, ◌<◌, ◌≤◌, List, [], ◌∷◌, ◌++◌, All, Contains, Option, Some, None, IfNone, arith, ap, get_or, length, refl, slice_get, subst, sym, take, ◌∙◌}
use Rattle.std.proofs.lemmas.List.{append-nil, get_or-map, length-map, take_all, take_more}
use Rattle.std.proofs.lemmas.List.Elements.{All-push}
use Rattle.std.proofs.lemmas.List.Folds.{concat-append}
use Rattle.std.proofs.lemmas.Option.{same_Some, slice_get_read, slice_get_within}
use Rattle.std.specs.List.{concat}
use Rattle.cookie_session.specs.Visit.{opened_visit}
use Rattle.cookie_session.specs.declared.opened.Opened.{Opened}
use Rattle.cookie_c.specs.Revoked.{HasNoneLeft, IsFirstUnlisted, IsTaken, bytes_of_ids, opened_ids}

abbrev id_of : Opened → List ℕ
id_of one = one.session.id

-- as many as the sessions
ids_long : (opened : List Opened) → length (opened_ids opened) ≡ length opened
ids_long opened = length-map opened id_of

module _ (opened : List Opened) (i : ℕ) (one : Opened) (below : i < length opened) (is : one ≡ get_or opened i one) where
  within : i < length (opened_ids opened)
  within = let long = ids_long opened in omega (arith, below, long)

  id_is : one.session.id ≡ get_or (opened_ids opened) i one.session.id
  id_is = ap id_of is ∙ sym (get_or-map id_of opened i one one.session.id below)

  pub id_here : slice_get (opened_ids opened) i ≡ Some one.session.id
  id_here = slice_get_read (opened_ids opened) (length (opened_ids opened)) i one.session.id refl within id_is

  ids_more : take (i + 1) (opened_ids opened) ≡ take i (opened_ids opened) ++ one.session.id ∷ []
  ids_more = take_more (opened_ids opened) i one.session.id within ∙ ap (λ id. take i (opened_ids opened) ++ id ∷ []) (sym id_is)

  -- if the ids so far are among these, and this one too, so are those up to this one
  pub listed_more : (revoked : List (List ℕ)) → All (Contains revoked) (take i (opened_ids opened)) → Contains revoked one.session.id
      → All (Contains revoked) (take (i + 1) (opened_ids opened))
  listed_more revoked before this =
      subst (All (Contains revoked)) (sym ids_more) (All-push (Contains revoked) (take i (opened_ids opened)) one.session.id before this)

  -- the bytes so far, and those of this one
  pub bytes_more : concat (take (i + 1) (opened_ids opened)) ≡ concat (take i (opened_ids opened)) ++ one.session.id
  bytes_more =
      ap concat ids_more
      ∙ concat-append (take i (opened_ids opened)) (one.session.id ∷ [])
      ∙ ap (λ bytes. concat (take i (opened_ids opened)) ++ bytes) (append-nil one.session.id)

module _ (opened : List Opened) (i : ℕ) (past : length opened ≤ i) where
  ids_all : take i (opened_ids opened) ≡ opened_ids opened
  ids_all = take_all i (opened_ids opened) (let long = ids_long opened in omega (arith, past, long))

  pub listed_all : (revoked : List (List ℕ)) → All (Contains revoked) (take i (opened_ids opened)) → IsFirstUnlisted revoked opened None
  listed_all revoked all = subst (All (Contains revoked)) ids_all all

  pub bytes_all : concat (take i (opened_ids opened)) ≡ bytes_of_ids opened
  bytes_all = ap concat ids_all

-- the session at the place of the first is the one that is taken
pub is_taken : (revoked : List (List ℕ)) (opened : List Opened) (place : ℕ) (first : Opened) → IsFirstUnlisted revoked opened (Some place)
    → first ≡ get_or opened place first → IsTaken revoked opened (opened_visit first.session first.place)
is_taken revoked opened place first is at =
    let (before, (id, here, unlisted)) = is in
    let inside : place < length (opened_ids opened) = slice_get_within (opened_ids opened) place id here in
    let long = ids_long opened in
    let below : place < length opened = omega (arith, inside, long) in
    (place, first, is, slice_get_read opened (length opened) place first refl below at, refl)

-- if none is left of the sessions that the handle has, the handle has none left
pub none_left : {X : Type 0} (result : Option X) (revoked : List (List ℕ)) (opened : List Opened) (old : Option (List Opened)) → old ≡ Some opened
    → IfNone result (IsFirstUnlisted revoked opened None) → IfNone result (HasNoneLeft revoked old)
none_left None revoked opened old is none =
    λ other same. subst (λ o. IsFirstUnlisted revoked o None) (same_Some opened other (sym is ∙ same)) none
none_left (Some x) revoked opened old is none = none
