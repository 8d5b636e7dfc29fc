-- Mirrors private code: what is left of a name without its prefix (src/prefix.rt).
use Rattle.std.specs.Prelude.{◌≡◌, false, Option, Some, None}
use Rattle.std.specs.Str.{bytes_eq}
use Rattle.cookie.specs.Jar.{Name}
use Rattle.cookie.specs.Prefixes.{clipped_name}

-- what taking the prefix off makes of a name, if it is another name
abbrev pub LeavesName : Name → Name → Option Name → Type 0
LeavesName prefix name None = clipped_name prefix name ≡ name
LeavesName prefix name (Some rest) =
    (clipped_name prefix name ≡ rest) × (bytes_eq rest name ≡ false)
