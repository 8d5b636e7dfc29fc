-- The product of a column and the matrix, by the bytes multiplied by x.
use Rattle.std.proofs.Common.{◌≡◌, ℕ, zero, suc, ◌+◌, ◌*◌, ◌%◌, ◌<◌, List, [], map, get_or, slice_index, ◌/◌, refl, ap, sym, ◌∙◌, arith, bit_xor}
use Rattle.std.specs.List.{range_with_len}
use Rattle.std.specs.Int.Bits.{xor_assoc, xor_comm}
use Rattle.std.proofs.lemmas.List.FromFn.{get_or-map-range_with_len}
use Rattle.cookie_crypt.specs.Bytes.{IsBytes}
use Rattle.cookie_crypt.specs.ByteField.{byte_times_x, byte_times_power, byte_product_below, byte_product}
use Rattle.cookie_crypt.specs.Aes.{cell, mixed_cell}
use Rattle.cookie_crypt.proofs.SboxLemmas.{on_bytes}

-- two functions that agree on all pairs of bytes
pub on_pairs : (f g : ℕ → ℕ → ℕ) → map (λ a. map (f a) (range_with_len 0 256)) (range_with_len 0 256) ≡ map (λ a. map (g a) (range_with_len 0 256)) (range_with_len 0 256)
    → (a b : ℕ) → a < 256 → b < 256 → f a b ≡ g a b
on_pairs f g same a b p q =
    on_bytes (f a) (g a)
    (sym (get_or-map-range_with_len (λ c. map (f c) (range_with_len 0 256)) 0 256 a a [] p (omega arith))
    ∙ ap (λ rows. get_or rows a []) same
    ∙ get_or-map-range_with_len (λ c. map (g c) (range_with_len 0 256)) 0 256 a a [] p (omega arith))
    b q

-- a column's byte, from its own place on
unfoldable pub mixed : ℕ → ℕ → ℕ → ℕ → ℕ
mixed a b c d = bit_xor (bit_xor (byte_times_x (bit_xor a b)) b) (bit_xor c d)

two_and_three : (a b : ℕ) → a < 256 → b < 256 → bit_xor (byte_times_x (bit_xor a b)) b ≡ bit_xor (byte_product 2 a) (byte_product 3 b)
unfolding byte_product byte_product_below byte_times_power byte_times_x
two_and_three = on_pairs (λ a b. bit_xor (byte_times_x (bit_xor a b)) b) (λ a b. bit_xor (byte_product 2 a) (byte_product 3 b)) refl

one : (a : ℕ) → a < 256 → a ≡ byte_product 1 a
unfolding byte_product byte_product_below byte_times_power byte_times_x
one = on_bytes (λ a. a) (byte_product 1) refl

mixed_is : (a b c d : ℕ) → a < 256 → b < 256 → c < 256 → d < 256
    → mixed a b c d ≡ bit_xor (bit_xor (bit_xor (byte_product 2 a) (byte_product 3 b)) (byte_product 1 c)) (byte_product 1 d)
unfolding mixed
mixed_is a b c d p q r s =
    sym (xor_assoc (bit_xor (byte_times_x (bit_xor a b)) b) c d)
    ∙ ap (λ x. bit_xor (bit_xor x c) d) (two_and_three a b p q)
    ∙ ap (λ x. bit_xor (bit_xor (bit_xor (byte_product 2 a) (byte_product 3 b)) x) d) (one c r)
    ∙ ap (λ x. bit_xor (bit_xor (bit_xor (byte_product 2 a) (byte_product 3 b)) (byte_product 1 c)) x) (one d s)

-- the sum of four, from the second, third or fourth on
from_second : (a b c d : ℕ) → bit_xor (bit_xor (bit_xor b c) d) a ≡ bit_xor (bit_xor (bit_xor a b) c) d
from_second a b c d =
    xor_comm (bit_xor (bit_xor b c) d) a ∙ sym (xor_assoc a (bit_xor b c) d) ∙ ap (λ x. bit_xor x d) (sym (xor_assoc a b c))

from_third : (a b c d : ℕ) → bit_xor (bit_xor (bit_xor c d) a) b ≡ bit_xor (bit_xor (bit_xor a b) c) d
from_third a b c d = from_second b c d a ∙ from_second a b c d

from_fourth : (a b c d : ℕ) → bit_xor (bit_xor (bit_xor d a) b) c ≡ bit_xor (bit_xor (bit_xor a b) c) d
from_fourth a b c d = from_third b c d a ∙ from_second a b c d

-- a row of the matrix times a column of a state of bytes
mixed_from : (s : List ℕ) (r c : ℕ) → r < 4 → IsBytes s
    → mixed (cell s r c) (cell s ((r + 1) % 4) c) (cell s ((r + 2) % 4) c) (cell s ((r + 3) % 4) c) ≡ mixed_cell s r c
unfolding mixed
mixed_from s zero c h p = mixed_is (cell s 0 c) (cell s 1 c) (cell s 2 c) (cell s 3 c) (p (4 * c + 0)) (p (4 * c + 1)) (p (4 * c + 2)) (p (4 * c + 3))
mixed_from s (suc zero) c h p =
    mixed_is (cell s 1 c) (cell s 2 c) (cell s 3 c) (cell s 0 c) (p (4 * c + 1)) (p (4 * c + 2)) (p (4 * c + 3)) (p (4 * c + 0))
    ∙ from_second (byte_product 1 (cell s 0 c)) (byte_product 2 (cell s 1 c)) (byte_product 3 (cell s 2 c)) (byte_product 1 (cell s 3 c))
mixed_from s (suc (suc zero)) c h p =
    mixed_is (cell s 2 c) (cell s 3 c) (cell s 0 c) (cell s 1 c) (p (4 * c + 2)) (p (4 * c + 3)) (p (4 * c + 0)) (p (4 * c + 1))
    ∙ from_third (byte_product 1 (cell s 0 c)) (byte_product 1 (cell s 1 c)) (byte_product 2 (cell s 2 c)) (byte_product 3 (cell s 3 c))
mixed_from s (suc (suc (suc zero))) c h p =
    mixed_is (cell s 3 c) (cell s 0 c) (cell s 1 c) (cell s 2 c) (p (4 * c + 3)) (p (4 * c + 0)) (p (4 * c + 1)) (p (4 * c + 2))
    ∙ from_fourth (byte_product 3 (cell s 0 c)) (byte_product 1 (cell s 1 c)) (byte_product 1 (cell s 2 c)) (byte_product 2 (cell s 3 c))
mixed_from s (suc (suc (suc (suc r)))) c h p = absurd (omega arith)

-- the byte at a place
pub mixed_at : (s : List ℕ) (i : ℕ) → i < 16 → IsBytes s
    → bit_xor (bit_xor (byte_times_x (bit_xor (slice_index s i) (slice_index s (4 * (i / 4) + (i + 1) % 4)))) (slice_index s (4 * (i / 4) + (i + 1) % 4))) (bit_xor (slice_index s (4 * (i / 4) + (i + 2) % 4)) (slice_index s (4 * ((4 * (i / 4) + (i + 2) % 4) / 4) + ((4 * (i / 4) + (i + 2) % 4) + 1) % 4))) ≡ mixed_cell s (i % 4) (i / 4)
unfolding mixed
mixed_at s i h p =
    let place : i ≡ 4 * (i / 4) + i % 4 = omega arith in
    let second : (i + 1) % 4 ≡ (i % 4 + 1) % 4 = omega arith in
    let third : (i + 2) % 4 ≡ (i % 4 + 2) % 4 = omega arith in
    let fourth : 4 * ((4 * (i / 4) + (i + 2) % 4) / 4) + ((4 * (i / 4) + (i + 2) % 4) + 1) % 4 ≡ 4 * (i / 4) + (i % 4 + 3) % 4 = omega arith in
    ap (λ k. mixed (slice_index s k) (cell s ((i + 1) % 4) (i / 4)) (cell s ((i + 2) % 4) (i / 4)) (slice_index s (4 * ((4 * (i / 4) + (i + 2) % 4) / 4) + ((4 * (i / 4) + (i + 2) % 4) + 1) % 4))) place
    ∙ ap (λ k. mixed (cell s (i % 4) (i / 4)) (cell s ((i + 1) % 4) (i / 4)) (cell s ((i + 2) % 4) (i / 4)) (slice_index s k)) fourth
    ∙ ap (λ j. mixed (cell s (i % 4) (i / 4)) (cell s j (i / 4)) (cell s ((i + 2) % 4) (i / 4)) (cell s ((i % 4 + 3) % 4) (i / 4))) second
    ∙ ap (λ j. mixed (cell s (i % 4) (i / 4)) (cell s ((i % 4 + 1) % 4) (i / 4)) (cell s j (i / 4)) (cell s ((i % 4 + 3) % 4) (i / 4))) third
    ∙ mixed_from s (i % 4) (i / 4) (omega arith) p
