-- The lengths of HMAC and of the expansion, and the padded key byte by byte.
use Rattle.std.proofs.Common.{◌≡◌, ℕ, ◌-◌, ◌<◌, ◌≤◌, List, ◌++◌, length, slice_index, replicate, ap, sym, refl, ◌∙◌, arith, bit_xor}
use Rattle.std.proofs.lemmas.List.{length-append, length-map, length-replicate, get_or-map, get_or_append_left, get_or-append_right, get_or-replicate}
use Rattle.std.specs.Int.Bits.{xor_comm, xor_zero_r}
use Rattle.cookie_crypt.specs.Hmac.{masked, hmac_short, hmac}
use Rattle.sha2.proofs.Facts256.{length-sha256}

length-padded : (key : List ℕ) → length key ≤ 64 → length (key ++ replicate (64 - length key) 0) ≡ 64
length-padded key h = omega (arith, length-append key (replicate (64 - length key) 0), length-replicate {A = ℕ} (64 - length key) 0)

pub length-masked : (key : List ℕ) (mask : ℕ) → length key ≤ 64 → length (masked key mask) ≡ 64
unfolding masked
length-masked key mask h = length-map (key ++ replicate (64 - length key) 0) (λ b. bit_xor b mask) ∙ length-padded key h

pub masked_byte : (key : List ℕ) (mask k : ℕ) → k < length key → length key ≤ 64 → bit_xor (slice_index key k) mask ≡ slice_index (masked key mask) k
unfolding masked
masked_byte key mask k inside h =
    sym (get_or-map (λ b. bit_xor b mask) (key ++ replicate (64 - length key) 0) k 0 0 (omega (arith, length-padded key h))
    ∙ ap (λ b. bit_xor b mask) (get_or_append_left key (replicate (64 - length key) 0) 0 k inside))

pub masked_zero : (key : List ℕ) (mask k : ℕ) → length key ≤ k → k < 64 → length key ≤ 64 → mask ≡ slice_index (masked key mask) k
unfolding masked
masked_zero key mask k outside end h =
    sym (get_or-map (λ b. bit_xor b mask) (key ++ replicate (64 - length key) 0) k 0 0 (omega (arith, length-padded key h))
    ∙ ap (λ b. bit_xor b mask) (get_or-append_right key (replicate (64 - length key) 0) (length key) k 0 refl outside
    ∙ get_or-replicate (64 - length key) (k - length key) 0 0 (omega arith))
    ∙ xor_comm 0 mask ∙ xor_zero_r mask)

pub length-hmac : (key message : List ℕ) → length (hmac key message) ≡ 32
unfolding hmac hmac_short
length-hmac key message = length-sha256 _
