-- How much of a cookie a browser takes (RFC 6265bis 5.7).
use Rattle.std.specs.Prelude.{ℕ, ◌+◌, length}
use Rattle.cookie_core.specs.Escapes.{escape}
use Rattle.cookie_core.specs.Record.{Record}

-- the bytes of the name and of the value, as they are printed
abbrev pub browser_length : Record → ℕ
browser_length cookie = length (escape cookie.name) + length (escape cookie.value)

-- the most bytes of a name and a value, in all, that a browser takes
abbrev pub most_bytes : ℕ
most_bytes = 4096
