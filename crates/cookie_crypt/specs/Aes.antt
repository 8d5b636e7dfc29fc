-- AES-256, forward, on lists of bytes (FIPS 197).
--
-- The state is a table of 4 by 4 bytes, kept as the sixteen bytes of a block: byte i stands in row i modulo 4 and
-- column i divided by 4 (3.4). A key's words are lists of four bytes, kept joined.
use Rattle.std.specs.Prelude.{ℕ, zero, suc, ◌+◌, ◌-◌, ◌*◌, ◌/◌, ◌%◌, ◌==◌, if◌then◌else◌, bit_xor, List, [], ◌∷◌, ◌++◌, map, slice_index}
use Rattle.std.specs.List.{range_with_len}
use Rattle.cookie_crypt.specs.ByteField.{byte_product}
use Rattle.cookie_crypt.specs.Sbox.{s_box}

-- ---- the state

-- the byte in a row and a column of a state
abbrev pub cell : List ℕ → ℕ → ℕ → ℕ
cell state row column = slice_index state (4 * column + row)

-- the state with the byte `byte_at row column` at each place
abbrev pub state_of : (ℕ → ℕ → ℕ) → List ℕ
state_of byte_at = map (λ place. byte_at (place % 4) (place / 4)) (range_with_len 0 16)

-- S on each byte (5.1.1)
unfoldable pub sub_bytes : List ℕ → List ℕ
sub_bytes state = state_of (λ row column. s_box (cell state row column))

-- each row rotated to the left by as many places as its number (5.1.2)
unfoldable pub shift_rows : List ℕ → List ℕ
shift_rows state = state_of (λ row column. cell state row ((column + row) % 4))

-- the matrix of the rows 02 03 01 01, 01 02 03 01, 01 01 02 03 and 03 01 01 02 (5.1.3)
abbrev pub mixing : ℕ → ℕ → ℕ
mixing row column = slice_index (2 ∷ 3 ∷ 1 ∷ 1 ∷ []) ((column + 4 - row) % 4)

-- a row of the matrix times a column of the state
abbrev pub mixed_cell : List ℕ → ℕ → ℕ → ℕ
mixed_cell state row column =
    bit_xor
    (bit_xor
    (bit_xor (byte_product (mixing row 0) (cell state 0 column))
    (byte_product (mixing row 1) (cell state 1 column)))
    (byte_product (mixing row 2) (cell state 2 column)))
    (byte_product (mixing row 3) (cell state 3 column))

-- each column multiplied by the matrix (5.1.3)
unfoldable pub mix_columns : List ℕ → List ℕ
mix_columns state = state_of (mixed_cell state)

-- ---- the key's words (5.2)

-- the word of this index
abbrev pub word : List ℕ → ℕ → List ℕ
word schedule index = map (λ place. slice_index schedule (4 * index + place)) (range_with_len 0 4)

-- the sum of two words
abbrev pub word_sum : List ℕ → List ℕ → List ℕ
word_sum left right =
    map (λ place. bit_xor (slice_index left place) (slice_index right place)) (range_with_len 0 4)

-- a word rotated one byte to the left
abbrev pub rot_word : List ℕ → List ℕ
rot_word bytes = map (λ place. slice_index bytes ((place + 1) % 4)) (range_with_len 0 4)

-- S on each byte of a word
abbrev pub sub_word : List ℕ → List ℕ
sub_word bytes = map (λ place. s_box (slice_index bytes place)) (range_with_len 0 4)

-- the constant of a round, counted from 1, in the first byte of a word
abbrev pub round_constant : ℕ → List ℕ
round_constant round =
    slice_index (0x01 ∷ 0x02 ∷ 0x04 ∷ 0x08 ∷ 0x10 ∷ 0x20 ∷ 0x40 ∷ []) (round - 1) ∷ 0 ∷ 0 ∷ 0 ∷ []

-- what is added to the word eight before this index to give the word of this index
unfoldable pub added_word : List ℕ → ℕ → List ℕ
added_word previous index =
    if index % 8 == 0 then word_sum (sub_word (rot_word previous)) (round_constant (index / 8))
    else if index % 8 == 4 then sub_word previous
    else previous

-- the word of this index, from the words before it
unfoldable pub next_word : List ℕ → ℕ → List ℕ
next_word schedule index =
    word_sum (word schedule (index - 8)) (added_word (word schedule (index - 1)) index)

-- eight words and this many more; the key is the first eight
unfoldable pub words : List ℕ → ℕ → List ℕ
words key zero = key
words key (suc count) = words key count ++ next_word (words key count) (8 + count)

-- all sixty words
unfoldable pub key_expansion : List ℕ → List ℕ
key_expansion key = words key 52

-- ---- the rounds (5.1)

-- the round's four words added, one to each column (5.1.4)
unfoldable pub add_round_key : List ℕ → ℕ → List ℕ → List ℕ
add_round_key schedule round state =
    state_of (λ row column.
    bit_xor (cell state row column) (slice_index (word schedule (4 * round + column)) row))

-- the state after round 0 and this many more
unfoldable pub rounds : List ℕ → ℕ → List ℕ → List ℕ
rounds schedule zero block = add_round_key schedule 0 block
rounds schedule (suc round) block =
    add_round_key schedule (suc round)
    (mix_columns (shift_rows (sub_bytes (rounds schedule round block))))

-- thirteen rounds, and the last, which leaves the columns unmixed
unfoldable pub cipher : List ℕ → List ℕ → List ℕ
cipher schedule block =
    add_round_key schedule 14 (shift_rows (sub_bytes (rounds schedule 13 block)))

-- a block encrypted under a key of 32 bytes
unfoldable pub encrypt_block : List ℕ → List ℕ → List ℕ
encrypt_block key block = cipher (key_expansion key) block
