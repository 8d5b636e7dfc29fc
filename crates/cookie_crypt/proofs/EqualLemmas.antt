-- Bytes that are joined bit by bit to zero.
use Rattle.std.proofs.Common.{◌≡◌, ℕ, ap, sym, ◌∙◌, arith, bit_xor}
use Rattle.std.specs.Int.Bits.{bit_or, xor_assoc, xor_self, xor_zero_l, xor_zero_r}
use Rattle.std.proofs.lemmas.Nat.{le_or_l, le_or_r}

pub neither : (a b : ℕ) → bit_or a b ≡ 0 → (a ≡ 0) × (b ≡ 0)
neither a b e = (omega (arith, e, le_or_l a b), omega (arith, e, le_or_r a b))

pub no_difference : (a b : ℕ) → bit_xor a b ≡ 0 → a ≡ b
no_difference a b e =
    sym (xor_zero_r a) ∙ ap (bit_xor a) (sym (xor_self b)) ∙ sym (xor_assoc a b b) ∙ ap (λ x. bit_xor x b) e ∙ xor_zero_l b
