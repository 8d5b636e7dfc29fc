-- Mirrors private code: the tables of a block's multiples.
use Rattle.std.specs.Prelude.{ℕ, ◌*◌, ◌^◌, List, map, slice_index}
use Rattle.std.specs.List.{range_with_len}
use Rattle.cookie_crypt.specs.BlockField.{field_product}
use Rattle.cookie_crypt.specs.Gcm.{bytes_of}

-- the bytes of the product of the block and that whose leftmost four bits are the index, and the others zero
abbrev pub row : ℕ → ℕ → List ℕ
row block index = bytes_of (field_product (index * 2 ^ 124) block)

unfoldable pub rows : ℕ → List (List ℕ)
rows block = map (row block) (range_with_len 0 16)

-- the byte at this place of each row
abbrev pub column : ℕ → ℕ → List ℕ
column block place = map (λ index. slice_index (row block index) place) (range_with_len 0 16)

unfoldable pub columns : ℕ → List (List ℕ)
columns block = map (column block) (range_with_len 0 16)
