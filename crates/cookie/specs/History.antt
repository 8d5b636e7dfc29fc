-- The jar after a list of calls, and what it has at a name by looking back through them: no map is kept.
use Rattle.std.specs.Prelude.{◌≡◌, Bool, false, List, [], ◌∷◌, Option, Some, None, is_some, if◌then◌else◌}
use Rattle.std.specs.FinMap.{get}
use Rattle.std.specs.List.{find, list_any}
use Rattle.std.specs.Str.{bytes_eq}
use Rattle.cookie_core.specs.Record.{Record}
use Rattle.cookie_core.specs.Removal.{removal}
use Rattle.cookie.specs.Jar.{Name, Marked, added_mark, dropped_mark, JarState, Change, AddOriginal, Add, Remove, ForceRemove, ResetDelta, after}

-- the jar after calls, the first one first
abbrev pub after_all : List Change → JarState → JarState
after_all [] jar = jar
after_all (change ∷ changes) jar = after_all changes (after change jar)

-- the calls whose outcome is true; a call without an outcome was not made
abbrev pub accepted_items : {X : Type 0} → List Bool → List X → List X
accepted_items [] calls = []
accepted_items (outcome ∷ outcomes) [] = []
accepted_items (outcome ∷ outcomes) (call ∷ calls) =
    if outcome then call ∷ accepted_items outcomes calls else accepted_items outcomes calls

-- ---- looking back: the latest call stands first

-- the last original of the name, if no forced removal of the name comes after it
abbrev pub original_by : Name → List Change → Option Record
original_by name [] = None
original_by name (AddOriginal cookie ∷ earlier) =
    if bytes_eq name cookie.name then Some cookie else original_by name earlier
original_by name (ForceRemove forced ∷ earlier) =
    if bytes_eq name forced then None else original_by name earlier
original_by name (change ∷ earlier) = original_by name earlier

-- what a removal leaves in the delta: a cookie that tells the client to drop the name, where there was an original
abbrev pub removal_by : Record → Option Record → Option Marked
removal_by cookie original = if is_some original then Some (dropped_mark cookie) else None

-- what the last of the additions, removals and forced removals of the name and the resets decides
abbrev pub entry_by : Name → List Change → Option Marked
entry_by name [] = None
entry_by name (AddOriginal cookie ∷ earlier) = entry_by name earlier
entry_by name (Add cookie ∷ earlier) =
    if bytes_eq name cookie.name then Some (added_mark cookie) else entry_by name earlier
entry_by name (Remove cookie now ∷ earlier) =
    if bytes_eq name cookie.name
    then removal_by (removal now cookie) (original_by name earlier) else entry_by name earlier
entry_by name (ForceRemove forced ∷ earlier) =
    if bytes_eq name forced then None else entry_by name earlier
entry_by name (ResetDelta ∷ earlier) = None

-- each map has at each name what looking back finds
pub record LooksBack (history : List Change) (jar : JarState) : Type 0 where
  pub originals : (name : Name) → get jar.originals name ≡ original_by name history
  pub delta : (name : Name) → get jar.delta name ≡ entry_by name history

-- ---- only originals

-- the originals that calls add, in their order
abbrev pub originals_of : List Change → List Record
originals_of [] = []
originals_of (AddOriginal cookie ∷ changes) = cookie ∷ originals_of changes
originals_of (change ∷ changes) = originals_of changes

-- looking back, the last original of the name, whatever came after it
abbrev pub last_original : Name → List Change → Option Record
last_original name history = find (λ cookie. bytes_eq name cookie.name) (originals_of history)

-- the call removes the name by force
abbrev pub forces : Name → Change → Bool
forces name (ForceRemove forced) = bytes_eq name forced
forces name change = false

-- whether a call removes the name by force
abbrev pub is_forced : Name → List Change → Bool
is_forced name changes = list_any (forces name) changes
