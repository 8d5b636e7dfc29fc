-- Mirrors private code: a table of cookies by their names, seen as a finite map from names.
use Rattle.std.specs.Prelude.{◌≡◌, Bool, List, IfSome, is_some, map, if◌then◌else◌}
use Rattle.std.specs.Arc.{arc_value}
use Rattle.std.specs.FinMap.{FinMap, from_entries, get, insert}
use Rattle.std.specs.Str.{bytes_eq}
use Rattle.cookie_core.specs.Record.{Record}
use Rattle.cookie.specs.Jar.{Name, name_cmp, JarState, Marked}
use Rattle.cookie.specs.declared.delta.DeltaCookie.{DeltaCookie}
use Rattle.cookie.specs.declared.name_hash.NameHash.{NameHash}
use Rattle.cookie.specs.declared.name_key.NameKey.{NameKey}
use Rattle.cookie.specs.declared.original.Original.{Original}

-- the name of a key's cookie
abbrev pub key_name : NameKey → Name
key_name key = (arc_value key.cookie).fields.name

-- both keys have one name
abbrev pub key_eq : NameKey → NameKey → Bool
key_eq a b = bytes_eq (key_name a) (key_name b)

-- a table's entries, and how it hashes names
pub record TableState (X : Type 0) : Type 0 where
  pub entries : List (NameKey × X)
  pub hash : NameHash

-- the map from the names of the keys to what the values show
abbrev pub by_name : {X Z : Type 0} → (X → Z) → List (NameKey × X) → FinMap name_cmp Z
by_name shows entries = from_entries (map (λ e. (key_name e.0, shows e.1)) entries)

-- the map with this value at the name, if it has none there
abbrev pub with_first : {Z : Type 0} → FinMap name_cmp Z → Name → Z → FinMap name_cmp Z
with_first table name z = if is_some (get table name) then table else insert table name z

-- what an original shows
abbrev pub original_fields : Original → Record
original_fields entry = (arc_value entry.cookie).fields

-- what a cookie of the delta shows
abbrev pub delta_mark : DeltaCookie → Marked
delta_mark entry = record { cookie = (arc_value entry.cookie).fields; removed = entry.removed }

-- each value is under its own name
abbrev pub IsKeyedByName : {Z : Type 0} → (Z → Name) → FinMap name_cmp Z → Type 0
IsKeyedByName name_of table = (n : Name) → IfSome (get table n) (λ z. name_of z ≡ n)

-- each cookie is under its own name
pub record AreNamed (jar : JarState) : Type 0 where
  pub originals : IsKeyedByName (λ r. r.name) jar.originals
  pub delta : IsKeyedByName (λ m. m.cookie.name) jar.delta
