-- Texts without the spaces and tabs at their ends (`WSP`, RFC 5234 B.1), as user agents trim them (RFC 6265bis, The
-- Set-Cookie Header Field).
use Rattle.std.specs.Prelude.{ℕ, ◌-◌, ◌==◌, ◌||◌, Bool, List, drop, take, length}
use Rattle.std.specs.List.{prefix_len, suffix_len}

-- a space or a tab
abbrev pub is_wsp : ℕ → Bool
is_wsp byte = byte == 32 || byte == 9

-- the bytes without these at the front, or at the end
abbrev pub trim_wsp_start : List ℕ → List ℕ
trim_wsp_start bytes = drop (prefix_len is_wsp bytes) bytes

abbrev pub trim_wsp_end : List ℕ → List ℕ
trim_wsp_end bytes = take (length bytes - suffix_len is_wsp bytes) bytes

-- the bytes without these at either end
unfoldable pub trim_wsp : List ℕ → List ℕ
trim_wsp bytes = trim_wsp_end (trim_wsp_start bytes)
