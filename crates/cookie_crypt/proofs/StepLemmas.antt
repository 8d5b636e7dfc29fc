-- Sums of counts.
use Rattle.std.proofs.Common.{◌≡◌, ℕ, ◌+◌, ap, arith}
use Rattle.cookie_crypt.specs.Steps.{StepCounts, with_blocks}

pub with_blocks-add : (m n : ℕ) (s : StepCounts) → with_blocks n (with_blocks m s) ≡ with_blocks (m + n) s
with_blocks-add m n s = let sum : s.blocks + m + n ≡ s.blocks + (m + n) = omega arith in ap (λ k. record s { blocks = k }) sum
