-- The generation that a session keeps.
use Rattle.std.specs.Prelude.{◌≡◌, ◌<◌, ◌≤◌, ◌^◌, ℕ, List, Some, codes}
use Rattle.std.specs.FinMap.{get}
use Rattle.std.specs.Fmt.{decimal}
use Rattle.cookie_session.specs.Session.{SessionState}

-- the name under which a session keeps it
abbrev pub generation_name : List ℕ
generation_name = codes "generation"

-- the session keeps this generation or a later one
abbrev pub IsSince : ℕ → SessionState → Type 0
IsSince generation state =
    (number : ℕ) × (number < 2 ^ 64) × (get state.texts generation_name ≡ Some (decimal number))
    × (generation ≤ number)
