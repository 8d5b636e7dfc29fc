-- The field of 2 ^ 8 elements of AES (FIPS 197 4). Bit i of a byte is the coefficient of x ^ i, and the sum of two
-- bytes is `bit_xor` (4.1).
use Rattle.std.specs.Prelude.{◌≡◌, ◌≢◌, ℕ, zero, suc, ◌-◌, ◌*◌, ◌/◌, ◌%◌, ◌<◌, ◌==◌, if◌then◌else◌, bit_xor}
use Rattle.std.specs.Int.{bit_at}

-- x times a byte: all bits move one place up, and x ^ 8, the bit that falls out, is 1 + x + x ^ 3 + x ^ 4 (4.2.1)
unfoldable pub byte_times_x : ℕ → ℕ
byte_times_x byte = bit_xor (byte * 2 % 256) (byte / 128 * 0x1b)

-- x to this power, times a byte
unfoldable pub byte_times_power : ℕ → ℕ → ℕ
byte_times_power zero byte = byte
byte_times_power (suc power) byte = byte_times_x (byte_times_power power byte)

-- the sum over the first coefficients of the left one of their powers of x times the right one
unfoldable pub byte_product_below : ℕ → ℕ → ℕ → ℕ
byte_product_below zero left right = 0
byte_product_below (suc count) left right =
    bit_xor (byte_product_below count left right) (bit_at left count * byte_times_power count right)

-- the product of two bytes (4.2)
unfoldable pub byte_product : ℕ → ℕ → ℕ
byte_product left right = byte_product_below 8 left right

-- the first of the last bytes, as many as counted, whose product with the byte is 1, or 0 if there is none
unfoldable pub inverse_in_last : ℕ → ℕ → ℕ
inverse_in_last zero byte = 0
inverse_in_last (suc count) byte =
    if byte_product byte (255 - count) == 1 then 255 - count else inverse_in_last count byte

-- the byte whose product with this one is 1, and 0 for 0 (4.2)
unfoldable pub inverse : ℕ → ℕ
inverse byte = inverse_in_last 256 byte

-- the one found is the inverse of the given byte: 0 for 0, else the one byte whose product with it is 1
pub record IsInverse (given found : ℕ) : Type 0 where
  pub byte : found < 256
  pub of_zero : given ≡ 0 → found ≡ 0
  pub product : given ≢ 0 → byte_product given found ≡ 1
  pub only : (other : ℕ) → other < 256 → byte_product given other ≡ 1 → other ≡ found
