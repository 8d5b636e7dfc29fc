use Rattle.std.proofs.Common.{◌≡◌, ℕ, ◌+◌, ◌*◌, ◌%◌, ◌^◌, List, ◌++◌, length, ap, sym, ◌∙◌, arith, bit_xor}
use Rattle.cookie_crypt.specs.Aes.{encrypt_block}
use Rattle.cookie_crypt.specs.BlockField.{field_product}
use Rattle.cookie_crypt.specs.Ghash.{ghash, ghash_from}
use Rattle.cookie_crypt.specs.Gcm.{number_of, bytes_of, blocks, hash_subkey, hashed_blocks, lengths_block, masked_hash, tag_of}
use Rattle.cookie_crypt.proofs.HornerLemmas.{ghash_from-append, ghash_from-push, ghash-iteration}
use Rattle.cookie_crypt.proofs.GcmLemmas.{tag_by_steps-sum}
use Rattle.cookie_crypt.proofs.sealing.tag_of.Goals as goal

pub returns-clause-made : goal.returns-clause-made
unfolding tag_of masked_hash hash_subkey hashed_blocks
returns-clause-made c =
    let key : List ℕ = c.args.cipher.now in
    let aad : List ℕ = c.args.aad.now in
    let text : List ℕ = c.args.text.now in
    let h : ℕ = c.args.multiples.now in
    let key_is : h ≡ hash_subkey key = c.requires.subkey in
    let last : ℕ = lengths_block (length aad) (length text) in
    let lengths : 8 * length aad * 2 ^ 64 % 2 ^ 128 + 8 * length text ≡ last = omega arith in
    let first : c.hash_from-hash.result ≡ ghash_from h 0 (blocks aad) = c.hash_from-hash.ensures.made in
    let second : c.hash_from-hash-2.result ≡ ghash_from h 0 (blocks aad ++ blocks text) =
    c.hash_from-hash-2.ensures.made
    ∙ ap (λ y. ghash_from h y (blocks text)) first ∙ sym (ghash_from-append h 0 (blocks aad) (blocks text)) in
    let hash : c.product-hash.result ≡ ghash (hash_subkey key) (hashed_blocks aad text) =
    c.product-hash.ensures.made
    ∙ ap (λ n. field_product (bit_xor c.hash_from-hash-2.result n) h) lengths
    ∙ ap (λ y. field_product (bit_xor y last) h) second
    ∙ sym (ghash_from-push h 0 last (blocks aad ++ blocks text))
    ∙ ghash-iteration h (hashed_blocks aad text)
    ∙ ap (λ k. ghash k (hashed_blocks aad text)) key_is in
    c.bytes_of.ensures
    ∙ ap (λ n. bytes_of (bit_xor n c.number_of-mask.result)) hash
    ∙ ap (λ n. bytes_of (bit_xor (ghash (hash_subkey key) (hashed_blocks aad text)) n))
    (c.number_of-mask.ensures ∙ ap number_of (c.encrypt_block.ensures.made ∙ ap (encrypt_block key) c.counter_block.ensures))

pub returns-clause-by_steps : goal.returns-clause-by_steps
returns-clause-by_steps c = returns-clause-made c ∙ sym (tag_by_steps-sum c.args.cipher.now c.args.nonce.now c.args.aad.now c.args.text.now)
