-- A block encrypted with S looked up in the standard's table. It is the same block, computed in much less time.
use Rattle.std.proofs.Common.{◌≡◌, ℕ, zero, suc, ◌+◌, ◌-◌, ◌/◌, ◌%◌, ◌==◌, ⊎_elim, if◌then◌else◌, List, [], ◌∷◌, ◌++◌, map, get_or, slice_index, refl, ap, sym, ◌∙◌, arith}
use Rattle.std.specs.List.{range_with_len}
use Rattle.std.proofs.lemmas.Bool.{cases_lt}
use Rattle.std.proofs.Math.Path.{fun_ext}
use Rattle.cookie_crypt.specs.ByteField.{byte_times_x, byte_times_power, byte_product_below, byte_product, inverse_in_last, inverse}
use Rattle.cookie_crypt.specs.Sbox.{affine_below, s_box}
use Rattle.cookie_crypt.specs.Aes.{cell, state_of, sub_bytes, shift_rows, mix_columns, word, word_sum, rot_word, round_constant, added_word, next_word, words, key_expansion, add_round_key, rounds, cipher, encrypt_block}
use Rattle.cookie_crypt.proofs.SboxLemmas.{on_bytes}

-- S (FIPS 197 5.1.1, figure 7): a row for each value of a byte's first four bits
unfoldable pub table : List (List ℕ)
table =
    (0x63 ∷ 0x7c ∷ 0x77 ∷ 0x7b ∷ 0xf2 ∷ 0x6b ∷ 0x6f ∷ 0xc5 ∷ 0x30 ∷ 0x01 ∷ 0x67 ∷ 0x2b ∷ 0xfe ∷ 0xd7 ∷ 0xab ∷ 0x76 ∷ [])
    ∷ (0xca ∷ 0x82 ∷ 0xc9 ∷ 0x7d ∷ 0xfa ∷ 0x59 ∷ 0x47 ∷ 0xf0 ∷ 0xad ∷ 0xd4 ∷ 0xa2 ∷ 0xaf ∷ 0x9c ∷ 0xa4 ∷ 0x72 ∷ 0xc0 ∷ [])
    ∷ (0xb7 ∷ 0xfd ∷ 0x93 ∷ 0x26 ∷ 0x36 ∷ 0x3f ∷ 0xf7 ∷ 0xcc ∷ 0x34 ∷ 0xa5 ∷ 0xe5 ∷ 0xf1 ∷ 0x71 ∷ 0xd8 ∷ 0x31 ∷ 0x15 ∷ [])
    ∷ (0x04 ∷ 0xc7 ∷ 0x23 ∷ 0xc3 ∷ 0x18 ∷ 0x96 ∷ 0x05 ∷ 0x9a ∷ 0x07 ∷ 0x12 ∷ 0x80 ∷ 0xe2 ∷ 0xeb ∷ 0x27 ∷ 0xb2 ∷ 0x75 ∷ [])
    ∷ (0x09 ∷ 0x83 ∷ 0x2c ∷ 0x1a ∷ 0x1b ∷ 0x6e ∷ 0x5a ∷ 0xa0 ∷ 0x52 ∷ 0x3b ∷ 0xd6 ∷ 0xb3 ∷ 0x29 ∷ 0xe3 ∷ 0x2f ∷ 0x84 ∷ [])
    ∷ (0x53 ∷ 0xd1 ∷ 0x00 ∷ 0xed ∷ 0x20 ∷ 0xfc ∷ 0xb1 ∷ 0x5b ∷ 0x6a ∷ 0xcb ∷ 0xbe ∷ 0x39 ∷ 0x4a ∷ 0x4c ∷ 0x58 ∷ 0xcf ∷ [])
    ∷ (0xd0 ∷ 0xef ∷ 0xaa ∷ 0xfb ∷ 0x43 ∷ 0x4d ∷ 0x33 ∷ 0x85 ∷ 0x45 ∷ 0xf9 ∷ 0x02 ∷ 0x7f ∷ 0x50 ∷ 0x3c ∷ 0x9f ∷ 0xa8 ∷ [])
    ∷ (0x51 ∷ 0xa3 ∷ 0x40 ∷ 0x8f ∷ 0x92 ∷ 0x9d ∷ 0x38 ∷ 0xf5 ∷ 0xbc ∷ 0xb6 ∷ 0xda ∷ 0x21 ∷ 0x10 ∷ 0xff ∷ 0xf3 ∷ 0xd2 ∷ [])
    ∷ (0xcd ∷ 0x0c ∷ 0x13 ∷ 0xec ∷ 0x5f ∷ 0x97 ∷ 0x44 ∷ 0x17 ∷ 0xc4 ∷ 0xa7 ∷ 0x7e ∷ 0x3d ∷ 0x64 ∷ 0x5d ∷ 0x19 ∷ 0x73 ∷ [])
    ∷ (0x60 ∷ 0x81 ∷ 0x4f ∷ 0xdc ∷ 0x22 ∷ 0x2a ∷ 0x90 ∷ 0x88 ∷ 0x46 ∷ 0xee ∷ 0xb8 ∷ 0x14 ∷ 0xde ∷ 0x5e ∷ 0x0b ∷ 0xdb ∷ [])
    ∷ (0xe0 ∷ 0x32 ∷ 0x3a ∷ 0x0a ∷ 0x49 ∷ 0x06 ∷ 0x24 ∷ 0x5c ∷ 0xc2 ∷ 0xd3 ∷ 0xac ∷ 0x62 ∷ 0x91 ∷ 0x95 ∷ 0xe4 ∷ 0x79 ∷ [])
    ∷ (0xe7 ∷ 0xc8 ∷ 0x37 ∷ 0x6d ∷ 0x8d ∷ 0xd5 ∷ 0x4e ∷ 0xa9 ∷ 0x6c ∷ 0x56 ∷ 0xf4 ∷ 0xea ∷ 0x65 ∷ 0x7a ∷ 0xae ∷ 0x08 ∷ [])
    ∷ (0xba ∷ 0x78 ∷ 0x25 ∷ 0x2e ∷ 0x1c ∷ 0xa6 ∷ 0xb4 ∷ 0xc6 ∷ 0xe8 ∷ 0xdd ∷ 0x74 ∷ 0x1f ∷ 0x4b ∷ 0xbd ∷ 0x8b ∷ 0x8a ∷ [])
    ∷ (0x70 ∷ 0x3e ∷ 0xb5 ∷ 0x66 ∷ 0x48 ∷ 0x03 ∷ 0xf6 ∷ 0x0e ∷ 0x61 ∷ 0x35 ∷ 0x57 ∷ 0xb9 ∷ 0x86 ∷ 0xc1 ∷ 0x1d ∷ 0x9e ∷ [])
    ∷ (0xe1 ∷ 0xf8 ∷ 0x98 ∷ 0x11 ∷ 0x69 ∷ 0xd9 ∷ 0x8e ∷ 0x94 ∷ 0x9b ∷ 0x1e ∷ 0x87 ∷ 0xe9 ∷ 0xce ∷ 0x55 ∷ 0x28 ∷ 0xdf ∷ [])
    ∷ (0x8c ∷ 0xa1 ∷ 0x89 ∷ 0x0d ∷ 0xbf ∷ 0xe6 ∷ 0x42 ∷ 0x68 ∷ 0x41 ∷ 0x99 ∷ 0x2d ∷ 0x0f ∷ 0xb0 ∷ 0x54 ∷ 0xbb ∷ 0x16 ∷ [])
    ∷ []

-- S of a byte by the table, and of any other number as it is defined
unfoldable pub looked_up_from : ℕ → ℕ → ℕ
looked_up_from zero byte = slice_index (get_or table (byte / 16) []) (byte % 16)
looked_up_from (suc over) byte = s_box byte

unfoldable pub looked_up : ℕ → ℕ
looked_up byte = looked_up_from (byte / 256) byte

pub looked_up-all : map looked_up (range_with_len 0 256) ≡ map s_box (range_with_len 0 256)
unfolding looked_up looked_up_from table s_box affine_below inverse inverse_in_last byte_product byte_product_below byte_times_power byte_times_x
looked_up-all = refl

pub looked_up-is : (byte : ℕ) → looked_up byte ≡ s_box byte
unfolding looked_up looked_up_from
looked_up-is byte =
    ⊎_elim
    (on_bytes looked_up s_box looked_up-all byte)
    (λ above.
    let more : byte / 256 ≡ suc (byte / 256 - 1) = omega (arith, above) in
    ap (λ over. looked_up_from over byte) more)
    (cases_lt byte 256)

-- ---- the definitions of a block, by any map in the place of S

abbrev pub word_by : (ℕ → ℕ) → List ℕ → List ℕ
word_by s bytes = map (λ place. s (slice_index bytes place)) (range_with_len 0 4)

abbrev pub added_by : (ℕ → ℕ) → List ℕ → ℕ → List ℕ
added_by s previous index =
    if index % 8 == 0 then word_sum (word_by s (rot_word previous)) (round_constant (index / 8))
    else if index % 8 == 4 then word_by s previous
    else previous

abbrev pub extended_by : (ℕ → ℕ) → List ℕ → ℕ → List ℕ
extended_by s schedule index =
    schedule ++ word_sum (word schedule (index - 8)) (added_by s (word schedule (index - 1)) index)

unfoldable pub words_by : (ℕ → ℕ) → List ℕ → ℕ → List ℕ
words_by s key zero = key
words_by s key (suc count) = extended_by s (words_by s key count) (8 + count)

abbrev pub bytes_by : (ℕ → ℕ) → List ℕ → List ℕ
bytes_by s state = state_of (λ row column. s (cell state row column))

unfoldable pub rounds_by : (ℕ → ℕ) → List ℕ → ℕ → List ℕ → List ℕ
rounds_by s schedule zero block = add_round_key schedule 0 block
rounds_by s schedule (suc round) block =
    add_round_key schedule (suc round) (mix_columns (shift_rows (bytes_by s (rounds_by s schedule round block))))

unfoldable pub cipher_by : (ℕ → ℕ) → List ℕ → List ℕ → List ℕ
cipher_by s schedule block = add_round_key schedule 14 (shift_rows (bytes_by s (rounds_by s schedule 13 block)))

words_by-is : (key : List ℕ) (count : ℕ) → words_by s_box key count ≡ words key count
unfolding words_by words next_word added_word
words_by-is key zero = refl
words_by-is key (suc count) = ap (λ schedule. extended_by s_box schedule (8 + count)) (words_by-is key count)

rounds_by-is : (schedule : List ℕ) (round : ℕ) (block : List ℕ) → rounds_by s_box schedule round block ≡ rounds schedule round block
unfolding rounds_by rounds sub_bytes
rounds_by-is schedule zero block = refl
rounds_by-is schedule (suc round) block =
    ap (λ state. add_round_key schedule (suc round) (mix_columns (shift_rows (bytes_by s_box state)))) (rounds_by-is schedule round block)

-- a block encrypted, with S looked up
unfoldable pub encrypted : List ℕ → List ℕ → List ℕ
encrypted key block = cipher_by looked_up (words_by looked_up key 52) block

pub encrypted-is : (key block : List ℕ) → encrypt_block key block ≡ encrypted key block
unfolding encrypt_block cipher key_expansion sub_bytes encrypted cipher_by
encrypted-is key block =
    let schedule : words_by s_box key 52 ≡ words key 52 = words_by-is key 52 in
    ap (λ state. add_round_key (words key 52) 14 (shift_rows (bytes_by s_box state))) (sym (rounds_by-is (words key 52) 13 block))
    ∙ ap (λ w. cipher_by s_box w block) (sym schedule)
    ∙ ap (λ s. cipher_by s (words_by s key 52) block) (sym (fun_ext looked_up-is))
