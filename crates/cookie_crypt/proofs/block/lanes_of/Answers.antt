use Rattle.std.proofs.Common.{◌≡◌, ℕ, zero, suc, ◌+◌, ◌*◌, ◌/◌, ◌%◌, ◌^◌, List, [], ◌∷◌, ap, refl, ◌∙◌, arith}
use Rattle.std.specs.Int.{byte_at, bytes_high_first}
use Rattle.std.proofs.Math.Nat.{div-div-eq-div-mul, pow-suc}
use Rattle.cookie_crypt.specs.Gcm.{bytes_of}
use Rattle.cookie_crypt.proofs.block.lanes_of.Goals as goal

-- what is left of a number after its first k bytes
abbrev after : ℕ → ℕ → ℕ
after zero n = n
after (suc k) n = after k n / 256

after_is : (k n : ℕ) → after k n ≡ n / 256 ^ k
after_is zero n = omega arith
after_is (suc k) n =
    ap (λ x. x / 256) (after_is k n) ∙ div-div-eq-div-mul n (256 ^ k) 256 ∙ ap (λ d. n / d) (omega (arith, pow-suc 256 k))

-- the lowest k bytes, the highest of them first
abbrev lanes : ℕ → ℕ → List ℕ
lanes zero n = []
lanes (suc k) n = after k n % 256 ∷ lanes k n

byte_is : (k n : ℕ) → after k n % 256 ≡ byte_at k n
byte_is zero n = refl
byte_is (suc k) n = ap (λ x. x % 256) (after_is (suc k) n)

lanes_are : (k n : ℕ) → lanes k n ≡ bytes_high_first k n
lanes_are zero n = refl
lanes_are (suc k) n = ap (λ b. b ∷ lanes k n) (byte_is k n) ∙ ap (λ bs. byte_at k n ∷ bs) (lanes_are k n)

pub returns : goal.returns
unfolding bytes_of
returns c =
    let n = c.args.number in
    let whole : n % 2 ^ 64 + 2 ^ 64 * (n / 2 ^ 64 + 0) ≡ n = omega arith in
    ap (lanes 16) whole ∙ lanes_are 16 n
