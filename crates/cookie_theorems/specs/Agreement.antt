-- A site sees of a store what a jar shows, once the agent has read the jar's delta; and when it does.
use Rattle.std.specs.Prelude.{◌≡◌, ◌≤◌, ℕ, length, IsUtf8, Bool, ◌⊎◌, true, false, List, [], map, filter, All, Option, Some, option_map, Ok}
use Rattle.std.specs.FinMap.{FinMap, get}
use Rattle.std.specs.Option.{option_to_list}
use Rattle.std.specs.Str.{bytes_eq}
use Rattle.jiff.specs.Types.{DateTime}
use Rattle.cookie.specs.CookieOf.{cookie_of}
use Rattle.cookie.specs.DeltaTexts.{AreDeltaTexts}
use Rattle.cookie.specs.Escapes.{escape}
use Rattle.cookie.specs.Header.{header_texts}
use Rattle.cookie.specs.Jar.{Name, name_cmp, Marked, JarState, view}
use Rattle.cookie.specs.Normal.{IsNamed}
use Rattle.cookie.specs.Originals.{field_cookies}
use Rattle.cookie.specs.Record.{Record, plain}
use Rattle.cookie.specs.Text.{cookie_text}
use Rattle.cookie_client.specs.Agreement.{value_of}
use Rattle.cookie_browser.specs.Request.{RequestView}
use Rattle.cookie_browser.specs.Storage.{CookieStore, KeptView, is_sent, lasts, verdict}
use Rattle.cookie_browser.specs.Suffixes.{Rule}
use Rattle.cookie_agent.specs.Scopes.{ScopeView, scope_of, reaches}
use Rattle.cookie_agent.specs.Sent.{IsHeader, seen}
use Rattle.cookie_theorems.specs.Reading.{kept_after_texts}

-- ---- the premise

-- where the cookies of a name are sent, and whether they may be secure-only
pub record PlanView : Type 0 where
  pub scope : ScopeView
  pub is_secure : Bool

-- A browser without cookies stores the cookie's text in the scope of its name. The cookie is secure-only only if its
-- name may be, and such a name is set over secure connections only.
pub record IsPlanned (rules : List Rule) (site : RequestView) (now : DateTime)
    (plans : Name → PlanView) (cookie : Record)
    : Type 0 where
  pub kept : KeptView
  pub stored : verdict rules site now [] (cookie_text true false cookie) ≡ Ok kept
  pub scope : scope_of kept ≡ (plans cookie.name).scope
  pub secure : kept.is_secure_only ≡ true → (plans cookie.name).is_secure ≡ true
  pub covered : (plans cookie.name).is_secure ≡ true → site.is_secure ≡ true

-- a stored cookie that is the escaped name and value of some cookie, as its name's plan has it
pub record IsOurs (plans : Name → PlanView) (cookie : KeptView) : Type 0 where
  pub name : Name
  pub value : List ℕ
  pub named : IsNamed (plain name value)
  pub names : cookie.name ≡ escape name
  pub values : cookie.value ≡ escape value
  pub scope : scope_of cookie ≡ (plans name).scope
  pub secure : cookie.is_secure_only ≡ true → (plans name).is_secure ≡ true

-- each stored cookie is of that kind, and no two have one name
pub record IsOurStore (plans : Name → PlanView) (store : CookieStore) : Type 0 where
  pub each : All (IsOurs plans) store
  pub once : (name : List ℕ) → length (filter (λ c. bytes_eq c.name name) store) ≤ 1

-- ---- what is seen

-- the site sees these values, each under its name, once
abbrev pub Mirrors : RequestView → DateTime → CookieStore → (Name → Option (List ℕ)) → Type 0
Mirrors site now store values =
    (name : Name) → IsUtf8 name
    → seen site now store (escape name) ≡ option_to_list (option_map escape (values name))

-- the values that cookies have under a name
abbrev pub values_of : Name → List Record → List (List ℕ)
values_of name cookies = map (λ c. c.value) (filter (λ c. bytes_eq c.name name) cookies)

-- A server reads the header as what the jar shows: none of its texts is refused or skipped, and those of a name are the
-- one that the jar shows under it, if it shows one.
pub record SiteAgrees (jar : JarState) (header : List ℕ) : Type 0 where
  pub read : map (cookie_of true) (header_texts header)
      ≡ map (λ c. Some c) (field_cookies header)
  pub agrees : (name : Name) → IsUtf8 name
      → values_of name (field_cookies header) ≡ option_to_list (value_of (view jar name))

-- ---- the delta

-- an entry of the delta: a cookie with a name, as its name's plan has it, that is sent at once, or is expired if the
-- entry is a removal
pub record IsPlannedEntry (rules : List Rule) (site : RequestView) (now : DateTime)
    (plans : Name → PlanView) (name : Name) (entry : Marked)
    : Type 0 where
  pub cookie : IsNamed entry.cookie
  pub key : entry.cookie.name ≡ name
  pub planned : IsPlanned rules site now plans entry.cookie
  pub fate : ((entry.removed ≡ true) × (lasts planned.kept.expiry now ≡ false))
      ⊎ ((entry.removed ≡ false) × (is_sent site now planned.kept ≡ true))

-- each entry of the delta is of that kind
abbrev pub IsPlannedDelta : List Rule → RequestView → DateTime → (Name → PlanView)
    → FinMap name_cmp Marked → Type 0
IsPlannedDelta rules site now plans delta =
    (name : Name) (entry : Marked) → get delta name ≡ Some entry
    → IsPlannedEntry rules site now plans name entry

-- However the delta's texts are ordered and repeated, the site then sees what the jar shows, if it saw the jar's
-- originals before.
abbrev pub IsFollowed : Type 0
IsFollowed =
    (rules : List Rule) (site : RequestView) (now : DateTime) (plans : Name → PlanView)
    (store : CookieStore) (jar : JarState) (texts : List (List ℕ))
    → All (IsOurs plans) store → IsPlannedDelta rules site now plans jar.delta
    → Mirrors site now store (λ name. value_of (get jar.originals name))
    → AreDeltaTexts jar.delta texts
    → All (IsOurs plans) (kept_after_texts rules site now texts store)
    × Mirrors site now (kept_after_texts rules site now texts store)
    (λ name. value_of (view jar name))

-- the values that a jar shows are texts
abbrev pub IsKnownView : JarState → Type 0
IsKnownView jar =
    (name : Name) (cookie : Record) → view jar name ≡ Some cookie → IsUtf8 cookie.value

-- And its header, in whatever order, is read as that.
abbrev pub IsSent : Type 0
IsSent =
    (site : RequestView) (now : DateTime) (plans : Name → PlanView) (store : CookieStore)
    (jar : JarState) (header : List ℕ)
    → IsKnownView jar → All (IsOurs plans) store
    → Mirrors site now store (λ name. value_of (view jar name)) → IsHeader site now store header
    → SiteAgrees jar header

-- ---- two sites

-- Two sites at two times are alike for a store: each name's scope has both or neither, their connections and their
-- requests' contexts are alike, and what isn't expired at the one time isn't at the other.
pub record AreAlike (plans : Name → PlanView) (store : CookieStore) (site other : RequestView)
    (now later : DateTime)
    : Type 0 where
  pub reach : (name : Name) → reaches site (plans name).scope ≡ reaches other (plans name).scope
  pub secure : site.is_secure ≡ other.is_secure
  pub same_site : site.is_same_site ≡ other.is_same_site
  pub top_level : site.is_top_level ≡ other.is_top_level
  pub safe : site.is_safe ≡ other.is_safe
  pub ages : All (λ c. lasts c.expiry now ≡ lasts c.expiry later) store
