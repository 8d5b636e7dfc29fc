-- The texts of a jar's changes, as a response sends them (RFC 6265 4.1.1).
use Rattle.std.specs.Prelude.{◌≡◌, ℕ, true, false, List, Some, option_map, map, All, Contains, IsPermutation}
use Rattle.std.specs.FinMap.{FinMap, get}
use Rattle.cookie_core.specs.Record.{Record}
use Rattle.cookie_core.specs.Text.{cookie_text}
use Rattle.cookie.specs.Jar.{Name, name_cmp, Marked}
use Rattle.cookie.specs.Walk.{Walks}

-- the text of a cookie of the delta, encoded
pub record IsDeltaText (delta : FinMap name_cmp Marked) (text : List ℕ) : Type 0 where
  pub name : Name
  pub entry : Marked
  pub stands : get delta name ≡ Some entry
  pub is : text ≡ cookie_text true false entry.cookie

-- the texts of the delta's cookies, each at least once, in any order
pub record AreDeltaTexts (delta : FinMap name_cmp Marked) (texts : List (List ℕ)) : Type 0 where
  pub each : (name : Name) (entry : Marked) → get delta name ≡ Some entry
      → Contains texts (cookie_text true false entry.cookie)
  pub only : All (IsDeltaText delta) texts

-- the cookies of a delta, each once, in any order
abbrev pub WalksDelta : FinMap name_cmp Marked → List Record → Type 0
WalksDelta delta cookies =
    Walks (λ name. option_map (λ entry. entry.cookie) (get delta name)) cookies

-- the texts of the delta's cookies, each once, in any order
pub record AreDeltaTextsOnce (delta : FinMap name_cmp Marked) (texts : List (List ℕ))
    : Type 0 where
  pub cookies : List Record
  pub are : WalksDelta delta cookies
  pub written : IsPermutation (map (cookie_text true false) cookies) texts
