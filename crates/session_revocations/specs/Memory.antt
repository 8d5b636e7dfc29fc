-- The ids that are revoked in memory, as a finite map from each to the second until which it is.
use Rattle.std.specs.Prelude.{ℕ, ◌≤◌, max, nat_lt, List, Option, None, Some, if◌then◌else◌}
use Rattle.std.specs.Cmp.Lexicographic.{slice_cmp}
use Rattle.std.specs.Coded.{Coded, coded_list, coded_ℕ}
use Rattle.std.specs.FinMap.{FinMap, code, from_entries}
use Rattle.std.specs.Ordering.{nat_cmp}
use Rattle.std.specs.declared.cmp.Ordering.{Ordering}

-- byte by byte
abbrev pub id_cmp : List ℕ → List ℕ → Ordering
id_cmp = slice_cmp nat_cmp

abbrev pub Untils : Type 0
Untils = FinMap id_cmp ℕ

-- how such a map is stored
abbrev pub untils_code : Coded Untils
untils_code = code (coded_list coded_ℕ) coded_ℕ

-- the map that these entries make
abbrev pub untils_of : List (List ℕ × ℕ) → Untils
untils_of entries = from_entries entries

-- the later of two seconds, of which the first may be missing
abbrev pub later : Option ℕ → ℕ → ℕ
later None until = until
later (Some old) until = max old until

-- the second, if it comes after now
abbrev pub if_after : ℕ → Option ℕ → Option ℕ
if_after now None = None
if_after now (Some until) = if nat_lt now until then Some until else None

-- the second until which an id is revoked, if it is, is this one or a later one
abbrev pub lasts_until : ℕ → Option ℕ → Type 0
lasts_until second None = ⊥
lasts_until second (Some until) = second ≤ until
