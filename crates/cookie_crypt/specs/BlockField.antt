-- The field of 2 ^ 128 elements in which GCM multiplies (SP 800-38D 6.3).
--
-- A block is the number that its sixteen bytes write, the first byte highest. So its leftmost bit, bit 127, is the
-- coefficient of x ^ 0, and bit 0 that of x ^ 127. The sum of two blocks is `bit_xor`.
use Rattle.std.specs.Prelude.{ℕ, zero, suc, ◌-◌, ◌*◌, ◌/◌, ◌%◌, ◌^◌, bit_xor}
use Rattle.std.specs.Int.{bit_at}

-- R, the byte e1 followed by fifteen zero bytes: 1 + x + x ^ 2 + x ^ 7, which x ^ 128 is
abbrev pub reduction : ℕ
reduction = 0xe1000000000000000000000000000000

-- x times a block: all bits move one place to the right, and the bit that falls out adds the reduction
unfoldable pub times_x : ℕ → ℕ
times_x block = bit_xor (block / 2) (block % 2 * reduction)

-- x to this power, times a block
unfoldable pub times_power : ℕ → ℕ → ℕ
times_power zero block = block
times_power (suc power) block = times_x (times_power power block)

-- the coefficient of x to this degree, 0 or 1
abbrev pub coefficient : ℕ → ℕ → ℕ
coefficient block degree = bit_at block (127 - degree)

-- the sum over the first coefficients of the left one of their powers of x times the right one
unfoldable pub product_below : ℕ → ℕ → ℕ → ℕ
product_below zero left right = 0
product_below (suc count) left right =
    bit_xor (product_below count left right) (coefficient left count * times_power count right)

-- the product of two blocks
unfoldable pub field_product : ℕ → ℕ → ℕ
field_product left right = product_below 128 left right

-- the block 1: only its leftmost bit is set
abbrev pub block_one : ℕ
block_one = 2 ^ 127
