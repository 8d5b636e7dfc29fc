-- Mirrors private code: bytes as elements of the field of 256 elements over one of 16 (src/lanes.rt), and the key's words
-- as the rounds add them (src/aes.rt).
use Rattle.std.specs.Prelude.{ℕ, ◌/◌, List, [], ◌∷◌, map, nat_lt, slice_index, if◌then◌else◌, bit_and, bit_xor}
use Rattle.std.specs.List.{range_with_len}
use Rattle.cookie_crypt.specs.Lanes.{entry}
use Rattle.cookie_crypt.specs.Sbox.{s_box}
use Rattle.cookie_crypt.specs.declared.lanes.TheConstants.{INVERSES, FIVE_OVER}

-- the byte that a turned byte stands for
unfoldable pub turned_back : ℕ → ℕ
turned_back byte =
    bit_xor
    (slice_index (0 ∷ 18 ∷ 15 ∷ 29 ∷ 89 ∷ 75 ∷ 86 ∷ 68
    ∷ 215 ∷ 197 ∷ 216 ∷ 202 ∷ 142 ∷ 156 ∷ 129 ∷ 147 ∷ []) (bit_and byte 15))
    (slice_index (0 ∷ 1 ∷ 92 ∷ 93 ∷ 224 ∷ 225 ∷ 188 ∷ 189
    ∷ 80 ∷ 81 ∷ 12 ∷ 13 ∷ 176 ∷ 177 ∷ 236 ∷ 237 ∷ []) (byte / 16))

-- the sum of a turned byte's halves
abbrev pub both : ℕ → ℕ
both byte = bit_xor (byte / 16) (bit_and byte 15)

abbrev pub over : ℕ → ℕ
over byte = entry FIVE_OVER (bit_and byte 15)

abbrev pub upper_sum : ℕ → ℕ
upper_sum byte = bit_xor (entry INVERSES (byte / 16)) (over byte)

abbrev pub both_sum : ℕ → ℕ
both_sum byte = bit_xor (entry INVERSES (both byte)) (over byte)

-- what the inverse of a turned byte consists of
abbrev pub first_half : ℕ → ℕ
first_half byte = bit_xor (entry INVERSES (upper_sum byte)) (both byte)

abbrev pub second_half : ℕ → ℕ
second_half byte = bit_xor (entry INVERSES (both_sum byte)) (byte / 16)

-- S without its constant
abbrev pub linear_part : ℕ → ℕ
linear_part byte = bit_xor (s_box byte) 0x63

-- the byte of the key's words that a prepared byte at this place stands for: of round 0, of a later one, or of the last
abbrev pub key_byte : ℕ → ℕ → ℕ
key_byte place byte =
    if nat_lt place 16 then turned_back byte
    else if nat_lt place 224 then bit_xor (turned_back byte) 0x63
    else bit_xor byte 0x63

-- the words that prepared words stand for
unfoldable pub schedule_of : List ℕ → List ℕ
schedule_of prepared =
    map (λ place. key_byte place (slice_index prepared place)) (range_with_len 0 240)
