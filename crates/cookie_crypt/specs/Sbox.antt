-- The map S on bytes (FIPS 197 5.1.1).
use Rattle.std.specs.Prelude.{ℕ, zero, suc, ◌+◌, ◌*◌, ◌%◌, ◌^◌}
use Rattle.std.specs.Int.{bit_at}
use Rattle.cookie_crypt.specs.ByteField.{inverse}

-- the bit at this place of the affine map: the sum of five bits of the byte and that bit of 63 (5.1.1, equation 5.1)
abbrev pub affine_bit : ℕ → ℕ → ℕ
affine_bit byte place =
    (bit_at byte place + bit_at byte ((place + 4) % 8) + bit_at byte ((place + 5) % 8)
    + bit_at byte ((place + 6) % 8)
    + bit_at byte ((place + 7) % 8) + bit_at 0x63 place) % 2

-- the byte of its first bits, as many as counted
unfoldable pub affine_below : ℕ → ℕ → ℕ
affine_below zero byte = 0
affine_below (suc count) byte = affine_below count byte + affine_bit byte count * 2 ^ count

-- S: the affine map of the inverse
unfoldable pub s_box : ℕ → ℕ
s_box byte = affine_below 8 (inverse byte)
