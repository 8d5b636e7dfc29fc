-- The escapes of names and values (RFC 3986 2.1).
use Rattle.std.specs.Prelude.{ℕ, ◌||◌, ◌==◌, Bool, true, false, List, [], ◌∷◌, codes, nat_lt, nat_le, if◌then◌else◌}
use Rattle.std.specs.List.{flat_map}
use Rattle.percent_encoding.specs.Percent.{percent_encode_byte, percent_decode}

-- the byte is one of the list
abbrev pub is_one_of : List ℕ → ℕ → Bool
is_one_of [] byte = false
is_one_of (mark ∷ marks) byte = (mark == byte) || is_one_of marks byte

-- a control, the space, DEL, any byte past ASCII, and the marks that a header or a URL gives a meaning
abbrev pub is_escaped : ℕ → Bool
is_escaped byte =
    nat_lt byte 33 || (nat_le 127 byte || is_one_of (codes "\"<>`#?{}/:;=@[\\]^|%(),") byte)

-- what a byte becomes: itself, or `%` and two upper-case hexadecimal digits
abbrev pub escape_byte : ℕ → List ℕ
escape_byte byte = if is_escaped byte then percent_encode_byte byte else byte ∷ []

-- each byte of the text
unfoldable pub escape : List ℕ → List ℕ
escape text = flat_map escape_byte text

-- each `%` with two hexadecimal digits is one byte, and any other byte stays
abbrev pub unescape : List ℕ → List ℕ
unescape = percent_decode

-- the text as it is printed: escaped, where asked for
abbrev pub printed_form : Bool → List ℕ → List ℕ
printed_form true text = escape text
printed_form false text = text
