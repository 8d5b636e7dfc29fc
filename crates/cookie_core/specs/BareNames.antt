-- Mirrors private code: names that are read as they are sent, whatever else the piece has.
use Rattle.std.specs.Prelude.{◌≡◌, ℕ, ◌==◌, ◌&&◌, not, nat_lt, Bool, true, List}
use Rattle.std.specs.Str.{trim}
use Rattle.cookie_core.specs.Graphic.{is_graphic}
use Rattle.cookie_core.specs.SentNames.{has_printed_escapes}
use Rattle.cookie_core.specs.Wsp.{trim_wsp}

-- graphic ASCII, but no `%`
abbrev pub is_bare_byte : ℕ → Bool
is_bare_byte byte = is_graphic byte && not (byte == 37)

-- the same, or a space
abbrev pub is_plain_byte : ℕ → Bool
is_plain_byte byte = (nat_lt 31 byte && nat_lt byte 127) && not (byte == 37)

-- only spaces and tabs are around the name, and its escapes are of bytes that printing escapes
abbrev pub IsSettledName : List ℕ → Type 0
IsSettledName name =
    (trim name ≡ trim_wsp name) × (has_printed_escapes (trim_wsp name) ≡ true)
