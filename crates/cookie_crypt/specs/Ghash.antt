-- The authentication hash of GCM under a hash subkey H (SP 800-38D 6.4), as a sum of blocks times powers of H, and by
-- the standard's steps.
use Rattle.std.specs.Prelude.{◌≡◌, ℕ, zero, suc, ◌^◌, ◌<◌, bit_xor, List, [], ◌∷◌, length}
use Rattle.cookie_crypt.specs.BlockField.{field_product, block_one}

-- a block multiplied by H this many times over
unfoldable pub times_often : ℕ → ℕ → ℕ → ℕ
times_often subkey zero block = block
times_often subkey (suc count) block = field_product (times_often subkey count block) subkey

-- the hash of blocks X1 to Xm: the sum of Xi multiplied by H m + 1 - i times over (6.4)
unfoldable pub ghash : ℕ → List ℕ → ℕ
ghash subkey [] = 0
ghash subkey (block ∷ blocks) =
    bit_xor (times_often subkey (suc (length blocks)) block) (ghash subkey blocks)

-- the steps from a sum: each block is added, and the sum multiplied by H
unfoldable pub ghash_from : ℕ → ℕ → List ℕ → ℕ
ghash_from subkey sum [] = sum
ghash_from subkey sum (block ∷ blocks) =
    ghash_from subkey (field_product (bit_xor sum block) subkey) blocks

-- the hash by steps: Y0 is zero, and Yi is the product of Y(i-1) + Xi and H (6.4)
abbrev pub ghash_by_steps : ℕ → List ℕ → ℕ
ghash_by_steps subkey blocks = ghash_from subkey 0 blocks

-- the steps give the sum, for every list of blocks
abbrev pub HasSum : ℕ → Type 0
HasSum subkey = (blocks : List ℕ) → ghash_by_steps subkey blocks ≡ ghash subkey blocks

-- H to this power: H ^ 1 is H, and H ^ (n + 1) the product of H ^ n and H
unfoldable pub power : ℕ → ℕ → ℕ
power subkey zero = block_one
power subkey (suc zero) = subkey
power subkey (suc (suc count)) = field_product (power subkey (suc count)) subkey

-- a block multiplied by H n times over is its one product with H ^ n
abbrev pub HasPowersFirst : ℕ → Type 0
HasPowersFirst subkey =
    (block count : ℕ) → block < 2 ^ 128
    → times_often subkey count block ≡ field_product block (power subkey count)
