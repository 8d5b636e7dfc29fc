-- A value without the quotes around it (RFC 6265 4.1.1).
use Rattle.std.specs.Prelude.{ℕ, ◌-◌, ◌==◌, Bool, ◌&&◌, List, length, slice_index, slice_range, ltb, if◌then◌else◌}

-- the text has at least two bytes, and its first and its last one are `"`
abbrev pub is_quoted : List ℕ → Bool
is_quoted value =
    ltb 1 (length value) && slice_index value 0 == 34
    && slice_index value (length value - 1) == 34

-- the text without a `"` at both ends, where it has both, else the text
abbrev pub trimmed_value : List ℕ → List ℕ
trimmed_value value = if is_quoted value then slice_range value 1 (length value - 1) else value
