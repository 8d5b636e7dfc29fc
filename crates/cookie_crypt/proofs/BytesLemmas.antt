-- What the cipher gives is bytes.
use Rattle.std.proofs.Common.{◌≡◌, ℕ, zero, suc, ◌+◌, ◌-◌, ◌*◌, ◌/◌, ◌%◌, ◌^◌, ◌<◌, ◌≤◌, List, [], ◌∷◌, ◌++◌, length, map, get_or, slice_index, sym, refl, subst, arith, bit_xor, ⊎_elim, Bool, true, false, if◌then◌else◌, ◌==◌}
use Rattle.std.specs.List.{range_with_len}
use Rattle.std.specs.Int.{byte_at, bytes_high_first}
use Rattle.std.specs.Int.Bits.{xor_lt}
use Rattle.std.proofs.Math.Nat.{pow-suc}
use Rattle.std.proofs.lemmas.Bool.{cases_lt}
use Rattle.std.proofs.lemmas.List.{get_or_past, get_or_append_left, get_or-append_right}
use Rattle.std.proofs.lemmas.List.FromFn.{length-map-range_with_len, get_or-map-range_with_len}
use Rattle.cookie_crypt.specs.Bytes.{IsBytes}
use Rattle.cookie_crypt.specs.ByteField.{inverse}
use Rattle.cookie_crypt.specs.Sbox.{affine_bit, affine_below, s_box}
use Rattle.cookie_crypt.specs.Aes.{cell, sub_bytes, shift_rows, word, word_sum, rot_word, sub_word, round_constant, added_word, next_word, words, key_expansion, add_round_key, rounds, cipher, encrypt_block}
use Rattle.cookie_crypt.specs.Gcm.{bytes_of, key_stream, counter_block, gctr, masked_hash, tag_of, SealsToBytes}

-- a list made of bytes
pub bytes_made : (f : ℕ → ℕ) (n : ℕ) → ((k : ℕ) → f k < 256) → IsBytes (map f (range_with_len 0 n))
bytes_made f n each = λ i.
    ⊎_elim
    (λ inside. let e : get_or (map f (range_with_len 0 n)) i 0 ≡ f i = get_or-map-range_with_len f 0 n i i 0 inside (omega arith) in omega (arith, e, each i))
    (λ past. let e : get_or (map f (range_with_len 0 n)) i 0 ≡ 0 = get_or_past (map f (range_with_len 0 n)) i 0 (omega (arith, length-map-range_with_len f 0 n)) in omega (arith, e))
    (cases_lt i n)

pub bytes_joined : (xs ys : List ℕ) → IsBytes xs → IsBytes ys → IsBytes (xs ++ ys)
bytes_joined xs ys p q = λ i.
    ⊎_elim
    (λ inside. let e : get_or (xs ++ ys) i 0 ≡ get_or xs i 0 = get_or_append_left xs ys 0 i inside in omega (arith, e, p i))
    (λ past. let e : get_or (xs ++ ys) i 0 ≡ get_or ys (i - length xs) 0 = get_or-append_right xs ys (length xs) i 0 refl past in omega (arith, e, q (i - length xs)))
    (cases_lt i (length xs))

pub bytes_none : IsBytes []
bytes_none = λ i. omega arith

pub bytes_first : (x : ℕ) (xs : List ℕ) → x < 256 → IsBytes xs → IsBytes (x ∷ xs)
bytes_first x xs h p = at
  where
    at : (i : ℕ) → slice_index (x ∷ xs) i < 256
    at zero = h
    at (suc i) = p i

pub bytes_either : (t : Bool) (xs ys : List ℕ) → (t ≡ true → IsBytes xs) → IsBytes ys → IsBytes (if t then xs else ys)
bytes_either true xs ys p q = p refl
bytes_either false xs ys p q = q

-- ---- S

affine_below-lt : (n c : ℕ) → affine_below n c < 2 ^ n
unfolding affine_below
affine_below-lt zero c = omega arith
affine_below-lt (suc n) c =
    let bit : affine_bit c n < 2 = omega arith in
    let step : affine_bit c n * 2 ^ n ≤ 2 ^ n = scaled (affine_bit c n) (2 ^ n) bit in
    omega (arith, affine_below-lt n c, pow-suc 2 n, step)
  where
    scaled : (b p : ℕ) → b < 2 → b * p ≤ p
    scaled zero p h = omega arith
    scaled (suc zero) p h = omega arith
    scaled (suc (suc b)) p h = absurd (omega arith)

s_box-lt : (b : ℕ) → s_box b < 256
unfolding s_box
s_box-lt b = affine_below-lt 8 (inverse b)

pub xor_byte : (a b : ℕ) → a < 256 → b < 256 → bit_xor a b < 256
xor_byte a b p q = xor_lt 8 a b p q

-- ---- the key's words

bytes_constant : (k : ℕ) → IsBytes (round_constant k)
bytes_constant k =
    bytes_first (slice_index (0x01 ∷ 0x02 ∷ 0x04 ∷ 0x08 ∷ 0x10 ∷ 0x20 ∷ 0x40 ∷ []) (k - 1)) (0 ∷ 0 ∷ 0 ∷ []) (constants (k - 1))
    (bytes_first 0 (0 ∷ 0 ∷ []) (omega arith) (bytes_first 0 (0 ∷ []) (omega arith) (bytes_first 0 [] (omega arith) bytes_none)))
  where
    constants : IsBytes (0x01 ∷ 0x02 ∷ 0x04 ∷ 0x08 ∷ 0x10 ∷ 0x20 ∷ 0x40 ∷ [])
    constants =
        bytes_first 0x01 (0x02 ∷ 0x04 ∷ 0x08 ∷ 0x10 ∷ 0x20 ∷ 0x40 ∷ []) (omega arith)
        (bytes_first 0x02 (0x04 ∷ 0x08 ∷ 0x10 ∷ 0x20 ∷ 0x40 ∷ []) (omega arith)
        (bytes_first 0x04 (0x08 ∷ 0x10 ∷ 0x20 ∷ 0x40 ∷ []) (omega arith)
        (bytes_first 0x08 (0x10 ∷ 0x20 ∷ 0x40 ∷ []) (omega arith)
        (bytes_first 0x10 (0x20 ∷ 0x40 ∷ []) (omega arith)
        (bytes_first 0x20 (0x40 ∷ []) (omega arith)
        (bytes_first 0x40 [] (omega arith) bytes_none))))))

bytes_sum : (x y : List ℕ) → IsBytes x → IsBytes y → IsBytes (word_sum x y)
bytes_sum x y p q = bytes_made (λ j. bit_xor (slice_index x j) (slice_index y j)) 4 (λ j. xor_byte (slice_index x j) (slice_index y j) (p j) (q j))

bytes_sub_word : (x : List ℕ) → IsBytes (sub_word x)
bytes_sub_word x = bytes_made (λ j. s_box (slice_index x j)) 4 (λ j. s_box-lt (slice_index x j))

bytes_word : (w : List ℕ) (i : ℕ) → IsBytes w → IsBytes (word w i)
bytes_word w i p = bytes_made (λ j. slice_index w (4 * i + j)) 4 (λ j. p (4 * i + j))

bytes_added : (x : List ℕ) (i : ℕ) → IsBytes x → IsBytes (added_word x i)
unfolding added_word
bytes_added x i p =
    bytes_either (i % 8 == 0) (word_sum (sub_word (rot_word x)) (round_constant (i / 8))) (if i % 8 == 4 then sub_word x else x)
    (λ _. bytes_sum (sub_word (rot_word x)) (round_constant (i / 8)) (bytes_sub_word (rot_word x)) (bytes_constant (i / 8)))
    (bytes_either (i % 8 == 4) (sub_word x) x (λ _. bytes_sub_word x) p)

bytes_next : (w : List ℕ) (i : ℕ) → IsBytes w → IsBytes (next_word w i)
unfolding next_word
bytes_next w i p = bytes_sum (word w (i - 8)) (added_word (word w (i - 1)) i) (bytes_word w (i - 8) p) (bytes_added (word w (i - 1)) i (bytes_word w (i - 1) p))

bytes_words : (key : List ℕ) (n : ℕ) → IsBytes key → IsBytes (words key n)
unfolding words
bytes_words key zero p = p
bytes_words key (suc n) p = bytes_joined (words key n) (next_word (words key n) (8 + n)) (bytes_words key n p) (bytes_next (words key n) (8 + n) (bytes_words key n p))

bytes_key : (key : List ℕ) → IsBytes key → IsBytes (key_expansion key)
unfolding key_expansion
bytes_key key p = bytes_words key 52 p

-- ---- blocks

bytes_round_key : (w : List ℕ) (k : ℕ) (s : List ℕ) → IsBytes w → IsBytes s → IsBytes (add_round_key w k s)
unfolding add_round_key
bytes_round_key w k s p q =
    bytes_made (λ i. bit_xor (cell s (i % 4) (i / 4)) (slice_index (word w (4 * k + i / 4)) (i % 4))) 16
    (λ i. xor_byte (cell s (i % 4) (i / 4)) (slice_index (word w (4 * k + i / 4)) (i % 4)) (q (4 * (i / 4) + i % 4)) (bytes_word w (4 * k + i / 4) p (i % 4)))

pub bytes_shifted : (s : List ℕ) → IsBytes s → IsBytes (shift_rows s)
unfolding shift_rows
bytes_shifted s p = bytes_made (λ i. cell s (i % 4) ((i / 4 + i % 4) % 4)) 16 (λ i. p (4 * ((i / 4 + i % 4) % 4) + i % 4))

pub bytes_substituted : (s : List ℕ) → IsBytes (sub_bytes s)
unfolding sub_bytes
bytes_substituted s = bytes_made (λ i. s_box (cell s (i % 4) (i / 4))) 16 (λ i. s_box-lt (cell s (i % 4) (i / 4)))

bytes_encrypted : (key block : List ℕ) → IsBytes key → IsBytes (encrypt_block key block)
unfolding encrypt_block cipher
bytes_encrypted key block p =
    let last : List ℕ = sub_bytes (rounds (key_expansion key) 13 block) in
    bytes_round_key (key_expansion key) 14 (shift_rows last) (bytes_key key p)
    (bytes_shifted last (bytes_substituted (rounds (key_expansion key) 13 block)))

-- ---- sealings

byte_at-lt : (k n : ℕ) → byte_at k n < 256
byte_at-lt zero n = omega arith
byte_at-lt (suc k) n = omega arith

bytes_high : (k n : ℕ) → IsBytes (bytes_high_first k n)
bytes_high zero n = bytes_none
bytes_high (suc k) n = bytes_first (byte_at k n) (bytes_high_first k n) (byte_at-lt k n) (bytes_high k n)

pub bytes_number : (n : ℕ) → IsBytes (bytes_of n)
unfolding bytes_of
bytes_number n = bytes_high 16 n

bytes_gctr : (key nonce text : List ℕ) → IsBytes key → IsBytes text → IsBytes (gctr key nonce text)
unfolding gctr key_stream
bytes_gctr key nonce text p q =
    bytes_made (λ k. bit_xor (slice_index text k) (key_stream key nonce k)) (length text)
    (λ k. xor_byte (slice_index text k) (key_stream key nonce k) (q k) (bytes_encrypted key (counter_block nonce (k / 16 + 2)) p (k % 16)))

pub seals_to_bytes : (key : List ℕ) → IsBytes key → SealsToBytes key
unfolding tag_of masked_hash
seals_to_bytes key p = λ nonce aad plain text tag q sealing. (
  subst IsBytes (sym sealing.text_is) (bytes_gctr key nonce plain p q),
  subst IsBytes (sym sealing.tag_is) (bytes_number _),
)

-- the same of a cipher seen through its key
pub seals_to_bytes_as : (key inside : List ℕ) → IsBytes inside → inside ≡ key → SealsToBytes key
seals_to_bytes_as key inside p e = subst SealsToBytes e (seals_to_bytes inside p)
