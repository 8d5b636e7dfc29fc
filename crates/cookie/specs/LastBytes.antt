-- Mirrors private code: the byte by which names are told apart before they are compared.
use Rattle.std.specs.Prelude.{ℕ, ◌-◌, List, length, slice_index}

-- the last byte of a name, or 0
abbrev pub last_byte : List ℕ → ℕ
last_byte name = slice_index name (length name - 1)
