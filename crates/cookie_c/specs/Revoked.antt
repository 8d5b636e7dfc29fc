-- The ids of sessions: sixteen bytes each, one after the other. C has those that a request has open, and passes in those
-- that it found revoked.
use Rattle.std.specs.Prelude.{◌≡◌, ◌⊎◌, ℕ, ◌/◌, ◌%◌, List, Option, None, Some, Contains, length, map, slice_get}
use Rattle.std.specs.List.{concat}
use Rattle.std.specs.Simd.{first_chunks}
use Rattle.cookie_session.specs.Id.{id_length}
use Rattle.cookie_session.specs.Revocations.{IsFirstUnrevoked}
use Rattle.cookie_session.specs.Visit.{VisitState, opened_visit}
use Rattle.cookie_session.specs.declared.opened.Opened.{Opened}
use Rattle.cookie_c.specs.Handles.{IsKept}
use Rattle.cookie_c.specs.declared.status.Status.{Status}
use Rattle.cookie_c.specs.declared.status.Status.TheVariants as status

-- the bytes are whole ids
abbrev pub HasIds : List ℕ → Type 0
HasIds bytes = length bytes % id_length ≡ 0

-- the ids in `bytes`, sixteen bytes each
abbrev pub ids_of : List ℕ → List (List ℕ)
ids_of bytes = first_chunks id_length (length bytes / id_length) bytes

-- the ids of the opened sessions
abbrev pub opened_ids : List Opened → List (List ℕ)
opened_ids opened = map (λ one. one.session.id) opened

-- these, one after the other
abbrev pub bytes_of_ids : List Opened → List ℕ
bytes_of_ids opened = concat (opened_ids opened)

-- the place of the first of the opened sessions whose id isn't one of these, if there is one
abbrev pub IsFirstUnlisted : List (List ℕ) → List Opened → Option ℕ → Type 0
IsFirstUnlisted revoked opened place =
    IsFirstUnrevoked (λ id _. Contains revoked id) (opened_ids opened) place

-- the session is the first of the opened ones whose id isn't one of these, with the index of the key that opened it
abbrev pub IsTaken : List (List ℕ) → List Opened → VisitState → Type 0
IsTaken revoked opened taken =
    (place : ℕ) × (first : Opened) × IsFirstUnlisted revoked opened (Some place)
    × (slice_get opened place ≡ Some first)
    × (taken ≡ opened_visit first.session first.place)

-- the handle has no opened session whose id isn't one of these
abbrev pub HasNoneLeft : List (List ℕ) → Option (List Opened) → Type 0
HasNoneLeft revoked old = (opened : List Opened) → old ≡ Some opened
    → IsFirstUnlisted revoked opened None

-- The first of a handle's opened sessions whose id isn't one of these goes into a session's handle, which had another
-- one or none, and the others are gone. Or there is no such session, and both handles are as they were.
abbrev pub Takes : List (List ℕ) → Status → Option (List Opened) → Option (List Opened)
    → Option VisitState → Option VisitState → Type 0
Takes revoked answer old left had new =
    ((opened : List Opened) × (taken : VisitState) × (old ≡ Some opened)
    × IsTaken revoked opened taken × (answer ≡ status.Done) × (left ≡ None) × (new ≡ Some taken))
    ⊎ (HasNoneLeft revoked old × IsKept status.NoSession answer had new × (left ≡ old))
