-- AES-256-GCM with a nonce of twelve bytes, on lists of bytes (SP 800-38D).
use Rattle.std.specs.Prelude.{◌≡◌, ℕ, ◌+◌, ◌-◌, ◌*◌, ◌/◌, ◌%◌, ◌^◌, ◌≤◌, bit_xor, List, [], ◌∷◌, ◌++◌, length, map, replicate, slice_index}
use Rattle.std.specs.List.{range_with_len}
use Rattle.std.specs.Int.{w32, w128, from_be_bytes, to_be_bytes}
use Rattle.cookie_crypt.specs.Aes.{encrypt_block}
use Rattle.cookie_crypt.specs.Bytes.{IsBytes}
use Rattle.cookie_crypt.specs.Ghash.{ghash, ghash_by_steps}
use Rattle.cookie_crypt.specs.Steps.{StepCounts, block_count, sealing_steps}

-- ---- blocks as numbers

-- the number that a block's bytes write, the first byte highest
unfoldable pub number_of : List ℕ → ℕ
number_of block = from_be_bytes w128 block

-- the block that a number is written as
unfoldable pub bytes_of : ℕ → List ℕ
bytes_of number = to_be_bytes w128 number

-- ---- counter mode (6.5)

-- the nonce and a counter of four bytes, modulo 2 ^ 32 (6.2); J0 has the counter 1 (7.1, step 2)
unfoldable pub counter_block : List ℕ → ℕ → List ℕ
counter_block nonce counter = nonce ++ to_be_bytes w32 (counter % 2 ^ 32)

-- the byte at this place of what is added to a text: the encrypted counters from inc32(J0) on
unfoldable pub key_stream : List ℕ → List ℕ → ℕ → ℕ
key_stream key nonce place =
    slice_index (encrypt_block key (counter_block nonce (place / 16 + 2))) (place % 16)

-- the text with its part of the stream added: what encrypts, and also decrypts (7.1, step 3; 7.2, step 4)
unfoldable pub gctr : List ℕ → List ℕ → List ℕ → List ℕ
gctr key nonce text =
    map (λ place. bit_xor (slice_index text place) (key_stream key nonce place))
    (range_with_len 0 (length text))

-- ---- the tag (7.1, steps 4 to 6)

-- the block of this index of the data, padded with zeros, as which a read past the end counts
unfoldable pub block_at : List ℕ → ℕ → ℕ
block_at bytes index =
    number_of (map (λ place. slice_index bytes (16 * index + place)) (range_with_len 0 16))

-- the blocks of the data, padded with zeros to whole blocks
unfoldable pub blocks : List ℕ → List ℕ
blocks bytes = map (block_at bytes) (range_with_len 0 (block_count (length bytes)))

-- the block of two lengths in bits, each of 64 bits
abbrev pub lengths_block : ℕ → ℕ → ℕ
lengths_block aad text = 8 * aad * 2 ^ 64 + 8 * text

-- the blocks that are hashed: the data's, the encrypted text's, and the one of their lengths
unfoldable pub hashed_blocks : List ℕ → List ℕ → List ℕ
hashed_blocks aad text = blocks aad ++ blocks text ++ lengths_block (length aad) (length text) ∷ []

-- H, the hash subkey (7.1, step 1)
unfoldable pub hash_subkey : List ℕ → ℕ
hash_subkey key = number_of (encrypt_block key (replicate 16 0))

-- a hash with E of J0 added to it, as bytes
unfoldable pub masked_hash : List ℕ → List ℕ → ℕ → List ℕ
masked_hash key nonce hash =
    bytes_of (bit_xor hash (number_of (encrypt_block key (counter_block nonce 1))))

-- the tag of an encrypted text
unfoldable pub tag_of : List ℕ → List ℕ → List ℕ → List ℕ → List ℕ
tag_of key nonce aad text = masked_hash key nonce (ghash (hash_subkey key) (hashed_blocks aad text))

-- the same with the hash by the standard's steps
unfoldable pub tag_by_steps : List ℕ → List ℕ → List ℕ → List ℕ → List ℕ
tag_by_steps key nonce aad text =
    masked_hash key nonce (ghash_by_steps (hash_subkey key) (hashed_blocks aad text))

-- ---- sealing

-- the most bytes of associated data (5.2.1.1)
abbrev pub longest_data : ℕ
longest_data = 2 ^ 61 - 1

-- the most bytes of a text (5.2.1.1)
abbrev pub longest_text : ℕ
longest_text = 2 ^ 36 - 32

-- the lengths of data and text, in bytes, are within the limits
abbrev pub IsWithin : ℕ → ℕ → Type 0
IsWithin aad text = (aad ≤ longest_data) × (text ≤ longest_text)

-- text and tag are the sealing of a plain text (7.1)
pub record IsSealing (key nonce aad plain text tag : List ℕ) : Type 0 where
  pub within : IsWithin (length aad) (length plain)
  pub text_is : text ≡ gctr key nonce plain
  pub tag_is : tag ≡ tag_of key nonce aad text

-- what a `Gcm` makes of a plain text: its sealing, counted
pub record IsCountedSealing (key nonce aad plain text tag : List ℕ) (steps : StepCounts)
    : Type 0 where
  pub sealing : IsSealing key nonce aad plain text tag
  pub steps_are : steps ≡ sealing_steps (length aad) (length plain)

-- every sealing of bytes under this key is bytes
abbrev pub SealsToBytes : List ℕ → Type 0
SealsToBytes key =
    (nonce aad plain text tag : List ℕ) → IsBytes plain → IsSealing key nonce aad plain text tag
    → IsBytes text × IsBytes tag
