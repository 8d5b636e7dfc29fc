-- A jar as two finite maps from names, and what each call makes of them.
use Rattle.std.specs.Prelude.{ℕ, Bool, true, false, List, Option, Some, None, refl, if◌then◌else◌}
use Rattle.std.specs.Cmp.Lexicographic.{slice_cmp}
use Rattle.std.specs.Coded.{Coded, code_by, coded×, coded_ℕ, coded_bool, coded_list}
use Rattle.std.specs.FinMap.{FinMap, empty, get, insert, remove, contains_key, code}
use Rattle.std.specs.Ordering.{nat_cmp}
use Rattle.std.specs.declared.cmp.Ordering.{Ordering}
use Rattle.jiff.specs.Types.{DateTime}
use Rattle.cookie_core.specs.Record.{Record}
use Rattle.cookie_core.specs.RecordCode.{record_code}
use Rattle.cookie_core.specs.Removal.{removal}

-- a name is the list of its bytes
abbrev pub Name : Type 0
Name = List ℕ

-- names in the order of their bytes
abbrev pub name_cmp : Name → Name → Ordering
name_cmp = slice_cmp nat_cmp

-- a cookie of the delta: one that was added, or one that tells the client to drop its name
pub record Marked : Type 0 where
  pub cookie : Record
  pub removed : Bool

-- as a cookie that was added
abbrev pub added_mark : Record → Marked
added_mark cookie = record { cookie = cookie; removed = false }

-- as one that tells the client to drop its name (RFC 6265 3.1)
abbrev pub dropped_mark : Record → Marked
dropped_mark cookie = record { cookie = cookie; removed = true }

-- the original cookies, and the changes since, each under its cookie's name
pub record JarState : Type 0 where
  pub originals : FinMap name_cmp Record
  pub delta : FinMap name_cmp Marked

-- the jar with no cookie
abbrev pub empty_jar : JarState
empty_jar = record { originals = empty; delta = empty }

-- a call that changes a jar, with the cookie as it is stored
pub data Change : Type 0 where
  AddOriginal : Record → Change
  Add : Record → Change
  Remove : Record → DateTime → Change
  ForceRemove : Name → Change
  ResetDelta : Change

-- The jar after a call. Of a name without an original, a removal drops only the delta's entry; a forced one drops
-- the name from both maps and leaves nothing to tell the client. A reset forgets all changes.
abbrev pub after : Change → JarState → JarState
after (AddOriginal cookie) jar = record jar { originals = insert jar.originals cookie.name cookie }
after (Add cookie) jar = record jar { delta = insert jar.delta cookie.name (added_mark cookie) }
after (Remove cookie now) jar =
    record jar {
      delta = if contains_key jar.originals cookie.name
          then insert jar.delta cookie.name (dropped_mark (removal now cookie))
          else remove jar.delta cookie.name;
    }
after (ForceRemove name) jar =
    record {
      originals = remove jar.originals name;
      delta = remove jar.delta name;
    }
after ResetDelta jar = record jar { delta = empty }

-- what an entry of the delta shows, over what the originals show
abbrev pub overlay : Option Marked → Option Record → Option Record
overlay None original = original
overlay (Some entry) original = if entry.removed then None else Some entry.cookie

-- what the jar shows under a name
abbrev pub view : JarState → Name → Option Record
view jar name = overlay (get jar.delta name) (get jar.originals name)

-- how a cookie of the delta is stored, as a pair
abbrev pub marked_code : Coded Marked
marked_code =
    code_by (Record × Bool) (coded× record_code coded_bool) (λ m. (m.cookie, m.removed))
    (λ p. record { cookie = p.0; removed = p.1 }) (λ _. refl)

-- how a jar's state is stored, as a pair
abbrev pub jar_code : Coded JarState
jar_code =
    code_by (FinMap name_cmp Record × FinMap name_cmp Marked)
    (coded× (code (coded_list coded_ℕ) record_code) (code (coded_list coded_ℕ) marked_code))
    (λ j. (j.originals, j.delta)) (λ p. record { originals = p.0; delta = p.1 }) (λ _. refl)
