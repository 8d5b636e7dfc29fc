-- Values that the standards give, so that a wrong constant or step in the definitions does not check.
use Rattle.std.proofs.Common.{◌≡◌, ℕ, List, [], ◌∷◌, ◌++◌, replicate, map, take, slice_index, bit_xor, ◌%◌, refl, ap, ◌∙◌}
use Rattle.std.specs.Int.{w32, w64, w128, to_be_bytes}
use Rattle.std.specs.List.{range_with_len}
use Rattle.cookie_crypt.specs.ByteField.{byte_times_x, byte_times_power, byte_product_below, byte_product, inverse_in_last, inverse}
use Rattle.cookie_crypt.specs.Sbox.{affine_below, s_box}
use Rattle.cookie_crypt.specs.Aes.{shift_rows, mix_columns, add_round_key, encrypt_block}
use Rattle.cookie_crypt.specs.BlockField.{times_x, times_power, product_below, field_product}
use Rattle.cookie_crypt.specs.Ghash.{times_often, ghash}
use Rattle.cookie_crypt.specs.Gcm.{number_of, bytes_of, counter_block, key_stream, gctr, block_at, blocks, hashed_blocks, hash_subkey, masked_hash, tag_of}
use Rattle.cookie_crypt.proofs.TableLemmas.{table, looked_up_from, looked_up, words_by, rounds_by, cipher_by, encrypted, encrypted-is}

-- FIPS 197 4.2: the product of 57 and 83
product_of_the_standard : byte_product 0x57 0x83 ≡ 0xc1
unfolding byte_product byte_product_below byte_times_power byte_times_x
product_of_the_standard = refl

-- FIPS 197 5.1.1: S of 00, 01 and 53
s_box_of_the_standard : (s_box 0x00 ≡ 0x63) × (s_box 0x01 ≡ 0x7c) × (s_box 0x53 ≡ 0xed)
unfolding s_box affine_below inverse inverse_in_last byte_product byte_product_below byte_times_power byte_times_x
s_box_of_the_standard = (refl, refl, refl)

-- FIPS 197 C.3
block_of_the_standard : encrypt_block (range_with_len 0 32) (0x00 ∷ 0x11 ∷ 0x22 ∷ 0x33 ∷ 0x44 ∷ 0x55 ∷ 0x66 ∷ 0x77 ∷ 0x88 ∷ 0x99 ∷ 0xaa ∷ 0xbb ∷ 0xcc ∷ 0xdd ∷ 0xee ∷ 0xff ∷ [])
    ≡ 0x8e ∷ 0xa2 ∷ 0xb7 ∷ 0xca ∷ 0x51 ∷ 0x67 ∷ 0x45 ∷ 0xbf ∷ 0xea ∷ 0xfc ∷ 0x49 ∷ 0x90 ∷ 0x4b ∷ 0x49 ∷ 0x60 ∷ 0x89 ∷ []
unfolding byte_times_x byte_times_power byte_product_below byte_product shift_rows mix_columns add_round_key table looked_up_from looked_up words_by rounds_by cipher_by encrypted
block_of_the_standard = encrypted-is _ _

-- x times the block whose last bit alone is set
reduction_of_the_standard : times_x 1 ≡ 0xe1000000000000000000000000000000
unfolding times_x
reduction_of_the_standard = refl

-- a product and a hash of two blocks, from GCM's test case 2 (McGrew and Viega, appendix B)
product_of_blocks : field_product 0x0388dace60b6a392f328c2b971b2fe78 0x66e94bd4ef8a2c3b884cfa59ca342b2e ≡ 0x5e2ec746917062882c85b0685353deb7
unfolding field_product product_below times_power times_x
product_of_blocks = refl

hash_of_blocks : ghash 0x66e94bd4ef8a2c3b884cfa59ca342b2e (0x0388dace60b6a392f328c2b971b2fe78 ∷ 0x80 ∷ []) ≡ 0xf38cbb1ad69223dcc3457ae5b6b0f885
unfolding ghash times_often field_product product_below times_power times_x
hash_of_blocks = refl

-- a tag from the two blocks that it takes: H, and the first counter's
tag_from : (key nonce aad text subkey mask : List ℕ) → encrypt_block key (replicate 16 0) ≡ subkey → encrypt_block key (counter_block nonce 1) ≡ mask
    → tag_of key nonce aad text ≡ bytes_of (bit_xor (ghash (number_of subkey) (hashed_blocks aad text)) (number_of mask))
unfolding tag_of masked_hash hash_subkey
tag_from key nonce aad text subkey mask h e =
    ap (λ b. masked_hash key nonce (ghash (number_of b) (hashed_blocks aad text))) h
    ∙ ap (λ b. bytes_of (bit_xor (ghash (number_of subkey) (hashed_blocks aad text)) (number_of b))) e

-- GCM's test cases 13 and 14: the zero key and the zero nonce, without a text, and with a text of sixteen zero bytes
-- (McGrew and Viega, appendix B). The blocks are H and those of the counters 1 and 2
subkey_of_zeros : encrypt_block (replicate 32 0) (replicate 16 0) ≡ to_be_bytes w128 0xdc95c078a2408989ad48a21492842087
unfolding byte_times_x byte_times_power byte_product_below byte_product shift_rows mix_columns add_round_key table looked_up_from looked_up words_by rounds_by cipher_by encrypted counter_block
subkey_of_zeros = encrypted-is _ _

mask_of_zeros : encrypt_block (replicate 32 0) (counter_block (replicate 12 0) 1) ≡ to_be_bytes w128 0x530f8afbc74536b9a963b4f1c4cb738b
unfolding byte_times_x byte_times_power byte_product_below byte_product shift_rows mix_columns add_round_key table looked_up_from looked_up words_by rounds_by cipher_by encrypted counter_block
mask_of_zeros = encrypted-is _ _

stream_of_zeros : encrypt_block (replicate 32 0) (counter_block (replicate 12 0) 2) ≡ to_be_bytes w128 0xcea7403d4d606b6e074ec5d3baf39d18
unfolding byte_times_x byte_times_power byte_product_below byte_product shift_rows mix_columns add_round_key table looked_up_from looked_up words_by rounds_by cipher_by encrypted counter_block
stream_of_zeros = encrypted-is _ _

tag_of_no_text : tag_of (replicate 32 0) (replicate 12 0) [] [] ≡ to_be_bytes w128 0x530f8afbc74536b9a963b4f1c4cb738b
unfolding times_x times_power product_below field_product times_often ghash number_of bytes_of block_at blocks hashed_blocks
tag_of_no_text = tag_from _ _ _ _ _ _ subkey_of_zeros mask_of_zeros

text_of_zeros : gctr (replicate 32 0) (replicate 12 0) (replicate 16 0) ≡ to_be_bytes w128 0xcea7403d4d606b6e074ec5d3baf39d18
unfolding key_stream gctr
text_of_zeros = ap (λ s. map (λ k. bit_xor (slice_index (replicate 16 0) k) (slice_index s (k % 16))) (range_with_len 0 16)) stream_of_zeros

tag_of_zeros : tag_of (replicate 32 0) (replicate 12 0) [] (to_be_bytes w128 0xcea7403d4d606b6e074ec5d3baf39d18) ≡ to_be_bytes w128 0xd0d1c8a799996bf0265b98b5d48ab919
unfolding times_x times_power product_below field_product times_often ghash number_of bytes_of block_at blocks hashed_blocks
tag_of_zeros = tag_from _ _ _ _ _ _ subkey_of_zeros mask_of_zeros

-- GCM's test cases 15 and 16: a text of four blocks; the same text without its last four bytes, under twenty bytes of
-- data, so that the last block of both is short
abbrev key_of_fifteen : List ℕ
key_of_fifteen = to_be_bytes w128 0xfeffe9928665731c6d6a8f9467308308 ++ to_be_bytes w128 0xfeffe9928665731c6d6a8f9467308308

abbrev nonce_of_fifteen : List ℕ
nonce_of_fifteen = to_be_bytes w64 0xcafebabefacedbad ++ to_be_bytes w32 0xdecaf888

abbrev data_of_sixteen : List ℕ
data_of_sixteen = to_be_bytes w128 0xfeedfacedeadbeeffeedfacedeadbeef ++ to_be_bytes w32 0xabaddad2

abbrev text_of_fifteen : List ℕ
text_of_fifteen =
    to_be_bytes w128 0xd9313225f88406e5a55909c5aff5269a ++ to_be_bytes w128 0x86a7a9531534f7da2e4c303d8a318a72
    ++ to_be_bytes w128 0x1c3c0c95956809532fcf0e2449a6b525 ++ to_be_bytes w128 0xb16aedf5aa0de657ba637b391aafd255

abbrev sealed_fifteen : List ℕ
sealed_fifteen =
    to_be_bytes w128 0x522dc1f099567d07f47f37a32a84427d ++ to_be_bytes w128 0x643a8cdcbfe5c0c97598a2bd2555d1aa
    ++ to_be_bytes w128 0x8cb08e48590dbb3da7b08b1056828838 ++ to_be_bytes w128 0xc5f61e6393ba7a0abcc9f662898015ad

subkey_of_fifteen : encrypt_block key_of_fifteen (replicate 16 0) ≡ to_be_bytes w128 0xacbef20579b4b8ebce889bac8732dad7
unfolding byte_times_x byte_times_power byte_product_below byte_product shift_rows mix_columns add_round_key table looked_up_from looked_up words_by rounds_by cipher_by encrypted counter_block
subkey_of_fifteen = encrypted-is _ _

mask_of_fifteen : encrypt_block key_of_fifteen (counter_block nonce_of_fifteen 1) ≡ to_be_bytes w128 0xfd2caa16a5832e76aa132c1453eeda7e
unfolding byte_times_x byte_times_power byte_product_below byte_product shift_rows mix_columns add_round_key table looked_up_from looked_up words_by rounds_by cipher_by encrypted counter_block
mask_of_fifteen = encrypted-is _ _

stream_2 : encrypt_block key_of_fifteen (counter_block nonce_of_fifteen 2) ≡ to_be_bytes w128 0x8b1cf3d561d27be251263e66857164e7
unfolding byte_times_x byte_times_power byte_product_below byte_product shift_rows mix_columns add_round_key table looked_up_from looked_up words_by rounds_by cipher_by encrypted counter_block
stream_2 = encrypted-is _ _

stream_3 : encrypt_block key_of_fifteen (counter_block nonce_of_fifteen 3) ≡ to_be_bytes w128 0xe29d258faad137135bd49280af645bd8
unfolding byte_times_x byte_times_power byte_product_below byte_product shift_rows mix_columns add_round_key table looked_up_from looked_up words_by rounds_by cipher_by encrypted counter_block
stream_3 = encrypted-is _ _

stream_4 : encrypt_block key_of_fifteen (counter_block nonce_of_fifteen 4) ≡ to_be_bytes w128 0x908c82ddcc65b26e887f85341f243d1d
unfolding byte_times_x byte_times_power byte_product_below byte_product shift_rows mix_columns add_round_key table looked_up_from looked_up words_by rounds_by cipher_by encrypted counter_block
stream_4 = encrypted-is _ _

stream_5 : encrypt_block key_of_fifteen (counter_block nonce_of_fifteen 5) ≡ to_be_bytes w128 0x749cf39639b79c5d06aa8d5b932fc7f8
unfolding byte_times_x byte_times_power byte_product_below byte_product shift_rows mix_columns add_round_key table looked_up_from looked_up words_by rounds_by cipher_by encrypted counter_block
stream_5 = encrypted-is _ _

text_of_four_blocks : gctr key_of_fifteen nonce_of_fifteen text_of_fifteen ≡ sealed_fifteen
unfolding key_stream gctr
text_of_four_blocks = rw (stream_2, stream_3, stream_4, stream_5) refl

text_of_short_block : gctr key_of_fifteen nonce_of_fifteen (take 60 text_of_fifteen) ≡ take 60 sealed_fifteen
unfolding key_stream gctr
text_of_short_block = rw (stream_2, stream_3, stream_4, stream_5) refl

tag_of_four_blocks : tag_of key_of_fifteen nonce_of_fifteen [] sealed_fifteen ≡ to_be_bytes w128 0xb094dac5d93471bdec1a502270e3cc6c
unfolding times_x times_power product_below field_product times_often ghash number_of bytes_of block_at blocks hashed_blocks
tag_of_four_blocks = tag_from _ _ _ _ _ _ subkey_of_fifteen mask_of_fifteen

tag_of_short_blocks : tag_of key_of_fifteen nonce_of_fifteen data_of_sixteen (take 60 sealed_fifteen) ≡ to_be_bytes w128 0x76fc6ece0f4e1768cddf8853bb2d551b
unfolding times_x times_power product_below field_product times_often ghash number_of bytes_of block_at blocks hashed_blocks
tag_of_short_blocks = tag_from _ _ _ _ _ _ subkey_of_fifteen mask_of_fifteen
