-- Mirrors private code: what is left of the walk over the cookies that a jar shows (src/iter.rt).
use Rattle.std.specs.Prelude.{List, [], ◌∷◌, filter, is_none, if◌then◌else◌}
use Rattle.std.specs.FinMap.{FinMap, get}
use Rattle.cookie_core.specs.Record.{Record}
use Rattle.cookie.specs.Jar.{name_cmp, Marked}

-- the cookies of these entries that were added
abbrev pub additions : List Marked → List Record
additions [] = []
additions (entry ∷ entries) =
    if entry.removed then additions entries else entry.cookie ∷ additions entries

-- the cookies under whose names the delta has nothing
abbrev pub uncovered : FinMap name_cmp Marked → List Record → List Record
uncovered delta cookies = filter (λ c. is_none (get delta c.name)) cookies
