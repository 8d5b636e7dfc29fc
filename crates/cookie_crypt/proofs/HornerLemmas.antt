-- The hash by steps is the sum of blocks times powers.
use Rattle.std.proofs.Common.{arith, ◌≡◌, ℕ, zero, suc, ◌^◌, ◌<◌, List, [], ◌∷◌, ◌++◌, length, refl, sym, ap, ◌∙◌, bit_xor}
use Rattle.std.specs.Int.Bits.{xor_assoc, xor_zero_r}
use Rattle.cookie_crypt.specs.BlockField.{field_product}
use Rattle.cookie_crypt.specs.Ghash.{times_often, ghash, ghash_from, power, HasSum, HasPowersFirst}
use Rattle.cookie_crypt.proofs.ProductLemmas.{field_product-lt, field_product-xor_left, field_product-zero_left, field_product-assoc, field_product-one}

times_often-xor : (h n a c : ℕ) → times_often h n (bit_xor a c) ≡ bit_xor (times_often h n a) (times_often h n c)
unfolding times_often
times_often-xor h zero a c = refl
times_often-xor h (suc n) a c = ap (λ x. field_product x h) (times_often-xor h n a c) ∙ field_product-xor_left (times_often h n a) (times_often h n c) h

times_often-zero : (h n : ℕ) → times_often h n 0 ≡ 0
unfolding times_often
times_often-zero h zero = refl
times_often-zero h (suc n) = ap (λ x. field_product x h) (times_often-zero h n) ∙ field_product-zero_left h

times_often-inner : (h n a : ℕ) → times_often h n (field_product a h) ≡ times_often h (suc n) a
unfolding times_often
times_often-inner h zero a = refl
times_often-inner h (suc n) a = ap (λ x. field_product x h) (times_often-inner h n a)

-- the iteration from y gives the sum, and y multiplied by h as often as there are blocks
pub ghash_from-sum : (h y : ℕ) (xs : List ℕ) → ghash_from h y xs ≡ bit_xor (times_often h (length xs) y) (ghash h xs)
unfolding ghash_from ghash times_often
ghash_from-sum h y [] = sym (xor_zero_r y)
ghash_from-sum h y (x ∷ xs) =
    ghash_from-sum h (field_product (bit_xor y x) h) xs
    ∙ ap (λ v. bit_xor v (ghash h xs)) (times_often-inner h (length xs) (bit_xor y x) ∙ times_often-xor h (suc (length xs)) y x)
    ∙ xor_assoc (times_often h (suc (length xs)) y) (times_often h (suc (length xs)) x) (ghash h xs)

pub ghash-iteration : (h : ℕ) (xs : List ℕ) → ghash_from h 0 xs ≡ ghash h xs
ghash-iteration h xs = ghash_from-sum h 0 xs ∙ ap (λ v. bit_xor v (ghash h xs)) (times_often-zero h (length xs))

pub has_sum : (h : ℕ) → HasSum h
has_sum h = λ blocks. ghash-iteration h blocks

-- ---- powers first

power-lt : (h n : ℕ) → h < 2 ^ 128 → power h n < 2 ^ 128
unfolding power
power-lt h zero p = omega arith
power-lt h (suc zero) p = p
power-lt h (suc (suc n)) p = field_product-lt (power h (suc n)) h p

times_often-power : (h n x : ℕ) → x < 2 ^ 128 → h < 2 ^ 128 → times_often h n x ≡ field_product x (power h n)
unfolding times_often power
times_often-power h zero x p q = sym (field_product-one x p)
times_often-power h (suc zero) x p q = refl
times_often-power h (suc (suc n)) x p q =
    ap (λ y. field_product y h) (times_often-power h (suc n) x p q) ∙ field_product-assoc x (power h (suc n)) h p (power-lt h (suc n) q) q

pub has_powers_first : (h : ℕ) → h < 2 ^ 128 → HasPowersFirst h
has_powers_first h q = λ x n p. times_often-power h n x p q

-- ---- the iteration over joined lists

pub ghash_from-append : (h y : ℕ) (xs ys : List ℕ) → ghash_from h y (xs ++ ys) ≡ ghash_from h (ghash_from h y xs) ys
unfolding ghash_from
ghash_from-append h y [] ys = refl
ghash_from-append h y (x ∷ xs) ys = ghash_from-append h (field_product (bit_xor y x) h) xs ys

pub ghash_from-push : (h y x : ℕ) (xs : List ℕ) → ghash_from h y (xs ++ x ∷ []) ≡ field_product (bit_xor (ghash_from h y xs) x) h
unfolding ghash_from
ghash_from-push h y x xs = ghash_from-append h y xs (x ∷ [])
