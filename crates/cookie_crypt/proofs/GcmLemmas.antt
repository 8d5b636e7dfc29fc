-- Laws of sealing: encryption twice over gives the text back, and the tag is one by the sum and by the steps.
use Rattle.std.proofs.Common.{◌≡◌, ℕ, ◌<◌, Bool, List, length, get_or, refl, ap, sym, subst, ◌∙◌, arith, bit_xor}
use Rattle.std.specs.Bool.{OnTrue}
use Rattle.std.specs.Int.Bits.{xor_assoc, xor_self, xor_zero_r}
use Rattle.std.proofs.lemmas.Bool.{OnTrue_at, OnTrue_from}
use Rattle.std.proofs.lemmas.List.{ext_get_or}
use Rattle.std.proofs.lemmas.List.FromFn.{length-map-range_with_len, get_or-map-range_with_len}
use Rattle.cookie_crypt.specs.Gcm.{bytes_of, key_stream, gctr, hash_subkey, hashed_blocks, masked_hash, tag_of, tag_by_steps, IsWithin, IsSealing}
use Rattle.cookie_crypt.proofs.HornerLemmas.{ghash-iteration}

pub length-gctr : (key nonce text : List ℕ) → length (gctr key nonce text) ≡ length text
unfolding gctr
length-gctr key nonce text = length-map-range_with_len _ 0 (length text)

get_or-gctr : (key nonce text : List ℕ) (k : ℕ) → k < length text → get_or (gctr key nonce text) k 0 ≡ bit_xor (get_or text k 0) (key_stream key nonce k)
unfolding gctr
get_or-gctr key nonce text k h = get_or-map-range_with_len _ 0 (length text) k k 0 h (omega arith)

pub gctr-gctr : (key nonce text : List ℕ) → gctr key nonce (gctr key nonce text) ≡ text
gctr-gctr key nonce text =
    ext_get_or 0 (gctr key nonce (gctr key nonce text)) text
    (length-gctr key nonce (gctr key nonce text) ∙ length-gctr key nonce text)
    (λ k h.
    let inner : k < length text = omega (arith, length-gctr key nonce (gctr key nonce text), length-gctr key nonce text) in
    let s : ℕ = key_stream key nonce k in
    get_or-gctr key nonce (gctr key nonce text) k (omega (arith, length-gctr key nonce text))
    ∙ ap (λ x. bit_xor x s) (get_or-gctr key nonce text k inner)
    ∙ xor_assoc (get_or text k 0) s s ∙ ap (bit_xor (get_or text k 0)) (xor_self s) ∙ xor_zero_r (get_or text k 0))

pub tag_by_steps-sum : (key nonce aad text : List ℕ) → tag_by_steps key nonce aad text ≡ tag_of key nonce aad text
unfolding tag_by_steps tag_of
tag_by_steps-sum key nonce aad text = ap (masked_hash key nonce) (ghash-iteration (hash_subkey key) (hashed_blocks aad text))

pub length-tag_of : (key nonce aad text : List ℕ) → length (tag_of key nonce aad text) ≡ 16
unfolding tag_of masked_hash bytes_of
length-tag_of key nonce aad text = refl

-- a text within the limits has a sealing
pub sealing_of : (key nonce aad plain : List ℕ) → IsWithin (length aad) (length plain)
    → IsSealing key nonce aad plain (gctr key nonce plain) (tag_of key nonce aad (gctr key nonce plain))
sealing_of key nonce aad plain within = record { within = within; text_is = refl; tag_is = refl }

pub length-sealed : (key nonce aad plain text tag : List ℕ) → IsSealing key nonce aad plain text tag → length text ≡ length plain
length-sealed key nonce aad plain text tag h = ap length h.text_is ∙ length-gctr key nonce plain

-- a text with the tag of it is the sealing of what the stream makes of it
pub sealing-turned_back : (key nonce aad text plain tag : List ℕ) → IsWithin (length aad) (length text) → plain ≡ gctr key nonce text → tag ≡ tag_of key nonce aad text
    → IsSealing key nonce aad plain text tag
sealing-turned_back key nonce aad text plain tag within turned tag_is =
    let long : length plain ≡ length text = ap length turned ∙ length-gctr key nonce text in
    record {
      within = (within.0, omega (arith, long, within.1));
      text_is = sym (ap (gctr key nonce) turned ∙ gctr-gctr key nonce text);
      tag_is = tag_is;
    }

-- what is sealed is within the limits
pub sealed-within : (key nonce aad plain text tag : List ℕ) → IsSealing key nonce aad plain text tag → IsWithin (length aad) (length text)
sealed-within key nonce aad plain text tag h = (h.within.0, omega (arith, length-sealed key nonce aad plain text tag h, h.within.1))

-- a sealed text is of one plain text
sealed-only : (key nonce aad first second text tag : List ℕ) → IsSealing key nonce aad first text tag → IsSealing key nonce aad second text tag → first ≡ second
sealed-only key nonce aad first second text tag one other =
    sym (gctr-gctr key nonce first) ∙ ap (gctr key nonce) (sym one.text_is ∙ other.text_is) ∙ gctr-gctr key nonce second

-- what was opened is the only plain text
pub opened-only : (kept key nonce aad plain text tag : List ℕ) (opened : Bool) → kept ≡ key → OnTrue opened (IsSealing kept nonce aad plain text tag)
    → OnTrue opened ((other : List ℕ) → IsSealing key nonce aad other text tag → plain ≡ other)
opened-only kept key nonce aad plain text tag opened same h =
    OnTrue_from opened _ (λ is other sealing. sealed-only key nonce aad plain other text tag (subst (λ k. IsSealing k nonce aad plain text tag) same (OnTrue_at is h)) sealing)
