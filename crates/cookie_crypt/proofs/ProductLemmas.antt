-- Laws of the product of blocks.
use Rattle.std.proofs.Common.{◌≡◌, ◌≢◌, ℕ, zero, suc, ◌+◌, ◌-◌, ◌*◌, ◌/◌, ◌%◌, ◌^◌, ◌<◌, refl, sym, ap, ◌∙◌, arith, bit_xor, bit_and}
use Rattle.std.specs.Int.{bit_at}
use Rattle.std.specs.Int.Bits.{shifted_half, shifted_even, xor_assoc, xor_comm, xor_self, xor_zero_r, xor_shr, xor_lt, xor_add_and, xor_shifted}
use Rattle.std.proofs.Math.Nat.{add-zero, pow-suc, div-add-mod', mul_comm, mul_assoc, add-mul}
use Rattle.std.proofs.lemmas.Nat.{pow_pos, shr-shr}
use Rattle.std.proofs.lemmas.Nat.Bits.{bit_at_xor, bit_at-lt, bit_at-zero, shr_and_one, bit_at_cat_low}
use Rattle.cookie_crypt.specs.BlockField.{reduction, times_x, times_power, coefficient, product_below, field_product}

-- ---- sums of blocks

pub xor_swap : (a b c d : ℕ) → bit_xor (bit_xor a b) (bit_xor c d) ≡ bit_xor (bit_xor a c) (bit_xor b d)
xor_swap a b c d =
    xor_assoc a b (bit_xor c d)
    ∙ ap (bit_xor a) (sym (xor_assoc b c d) ∙ ap (λ x. bit_xor x d) (xor_comm b c) ∙ xor_assoc c b d)
    ∙ sym (xor_assoc a c (bit_xor b d))

zero_times : (v : ℕ) → 0 * v ≡ 0
zero_times v = omega arith

-- a sum of two bits times a block
pub scale_bits : (c d v : ℕ) → c < 2 → d < 2 → (c + d) % 2 * v ≡ bit_xor (c * v) (d * v)
scale_bits zero d v p q =
    let e : (0 + d) % 2 ≡ d = omega arith in
    ap (λ x. x * v) e ∙ ap (λ x. bit_xor x (d * v)) (sym (zero_times v))
scale_bits (suc zero) zero v p q = sym (ap (bit_xor (1 * v)) (zero_times v) ∙ xor_zero_r (1 * v))
scale_bits (suc zero) (suc zero) v p q = zero_times v ∙ sym (xor_self (1 * v))
scale_bits (suc (suc c)) d v p q = absurd (omega arith)
scale_bits (suc zero) (suc (suc d)) v p q = absurd (omega arith)

one_times : (v : ℕ) → 1 * v ≡ v
one_times v = omega arith

-- a bit times a sum of blocks
pub scale_sum : (c u v : ℕ) → c < 2 → c * bit_xor u v ≡ bit_xor (c * u) (c * v)
scale_sum zero u v p = zero_times (bit_xor u v) ∙ sym (ap (λ x. bit_xor x (0 * v)) (zero_times u) ∙ zero_times v)
scale_sum (suc zero) u v p = one_times (bit_xor u v) ∙ sym (ap (λ x. bit_xor x (1 * v)) (one_times u) ∙ ap (bit_xor u) (one_times v))
scale_sum (suc (suc c)) u v p = absurd (omega arith)

-- a function that is 0 at 0 and a bit's multiple
scale_through : (f : ℕ → ℕ) (c v : ℕ) → c < 2 → f 0 ≡ 0 → f (c * v) ≡ c * f v
scale_through f zero v p none = ap f (zero_times v) ∙ none ∙ sym (zero_times (f v))
scale_through f (suc zero) v p none = ap f (one_times v) ∙ sym (one_times (f v))
scale_through f (suc (suc c)) v p none = absurd (omega arith)

scale_lt : (k c v : ℕ) → c < 2 → v < 2 ^ k → c * v < 2 ^ k
scale_lt k zero v p q = omega (arith, zero_times v)
scale_lt k (suc zero) v p q = omega (arith, one_times v)
scale_lt k (suc (suc c)) v p q = absurd (omega arith)

-- ---- x times

pub times_x-xor : (a b : ℕ) → times_x (bit_xor a b) ≡ bit_xor (times_x a) (times_x b)
unfolding times_x
times_x-xor a b =
    let parity : bit_xor a b % 2 ≡ (a % 2 + b % 2) % 2 = omega (arith, xor_add_and a b) in
    let p : a % 2 < 2 = omega arith in
    let q : b % 2 < 2 = omega arith in
    ap (λ x. bit_xor x (bit_xor a b % 2 * reduction)) (xor_shr a b 1)
    ∙ ap (bit_xor (bit_xor (a / 2) (b / 2))) (ap (λ x. x * reduction) parity ∙ scale_bits (a % 2) (b % 2) reduction p q)
    ∙ xor_swap (a / 2) (b / 2) (a % 2 * reduction) (b % 2 * reduction)

pub times_x-zero : times_x 0 ≡ 0
unfolding times_x
times_x-zero = refl

pub times_x-lt : (b : ℕ) → b < 2 ^ 128 → times_x b < 2 ^ 128
unfolding times_x
times_x-lt b h = xor_lt 128 (b / 2) (b % 2 * reduction) (omega arith) (omega arith)

pub times_power-xor : (i a b : ℕ) → times_power i (bit_xor a b) ≡ bit_xor (times_power i a) (times_power i b)
unfolding times_power
times_power-xor zero a b = refl
times_power-xor (suc i) a b = ap times_x (times_power-xor i a b) ∙ times_x-xor (times_power i a) (times_power i b)

pub times_power-zero : (i : ℕ) → times_power i 0 ≡ 0
unfolding times_power
times_power-zero zero = refl
times_power-zero (suc i) = ap times_x (times_power-zero i) ∙ times_x-zero

pub times_power-times_x : (i b : ℕ) → times_power i (times_x b) ≡ times_x (times_power i b)
unfolding times_power
times_power-times_x zero b = refl
times_power-times_x (suc i) b = ap times_x (times_power-times_x i b)

pub times_power-lt : (i b : ℕ) → b < 2 ^ 128 → times_power i b < 2 ^ 128
unfolding times_power
times_power-lt zero b h = h
times_power-lt (suc i) b h = times_x-lt (times_power i b) (times_power-lt i b h)

-- ---- the field_product and sums

bit : (a i : ℕ) → coefficient a i < 2
bit a i = bit_at-lt a (127 - i)

pub product_below-xor_right : (n a u v : ℕ) → product_below n a (bit_xor u v) ≡ bit_xor (product_below n a u) (product_below n a v)
unfolding product_below
product_below-xor_right zero a u v = refl
product_below-xor_right (suc n) a u v =
    ap (λ x. bit_xor x (coefficient a n * times_power n (bit_xor u v))) (product_below-xor_right n a u v)
    ∙ ap (bit_xor (bit_xor (product_below n a u) (product_below n a v)))
    (ap (λ x. coefficient a n * x) (times_power-xor n u v) ∙ scale_sum (coefficient a n) (times_power n u) (times_power n v) (bit a n))
    ∙ xor_swap (product_below n a u) (product_below n a v) (coefficient a n * times_power n u) (coefficient a n * times_power n v)

pub product_below-xor_left : (n a c v : ℕ) → product_below n (bit_xor a c) v ≡ bit_xor (product_below n a v) (product_below n c v)
unfolding product_below
product_below-xor_left zero a c v = refl
product_below-xor_left (suc n) a c v =
    ap (λ x. bit_xor x (coefficient (bit_xor a c) n * times_power n v)) (product_below-xor_left n a c v)
    ∙ ap (bit_xor (bit_xor (product_below n a v) (product_below n c v)))
    (ap (λ x. x * times_power n v) (bit_at_xor a c (127 - n)) ∙ scale_bits (coefficient a n) (coefficient c n) (times_power n v) (bit a n) (bit c n))
    ∙ xor_swap (product_below n a v) (product_below n c v) (coefficient a n * times_power n v) (coefficient c n * times_power n v)

pub product_below-zero_right : (n a : ℕ) → product_below n a 0 ≡ 0
unfolding product_below
product_below-zero_right zero a = refl
product_below-zero_right (suc n) a =
    ap (λ x. bit_xor x (coefficient a n * times_power n 0)) (product_below-zero_right n a)
    ∙ scale_through (λ x. x) (coefficient a n) (times_power n 0) (bit a n) refl
    ∙ ap (λ x. coefficient a n * x) (times_power-zero n) ∙ omega arith

pub product_below-zero_left : (n b : ℕ) → product_below n 0 b ≡ 0
unfolding product_below
product_below-zero_left zero b = refl
product_below-zero_left (suc n) b =
    ap (λ x. bit_xor x (coefficient 0 n * times_power n b)) (product_below-zero_left n b)
    ∙ ap (λ x. x * times_power n b) (bit_at-zero (127 - n)) ∙ zero_times (times_power n b)

pub product_below-times_x : (n a v : ℕ) → product_below n a (times_x v) ≡ times_x (product_below n a v)
unfolding product_below
product_below-times_x zero a v = sym times_x-zero
product_below-times_x (suc n) a v =
    ap (λ x. bit_xor x (coefficient a n * times_power n (times_x v))) (product_below-times_x n a v)
    ∙ ap (bit_xor (times_x (product_below n a v)))
    (ap (λ x. coefficient a n * x) (times_power-times_x n v) ∙ sym (scale_through times_x (coefficient a n) (times_power n v) (bit a n) times_x-zero))
    ∙ sym (times_x-xor (product_below n a v) (coefficient a n * times_power n v))

pub product_below-times_power : (i n a v : ℕ) → product_below n a (times_power i v) ≡ times_power i (product_below n a v)
unfolding times_power
product_below-times_power zero n a v = refl
product_below-times_power (suc i) n a v = product_below-times_x n a (times_power i v) ∙ ap times_x (product_below-times_power i n a v)

-- products by a and by c, one after the other, in either order
pub product_below-exchange : (m n a c v : ℕ) → product_below n a (product_below m c v) ≡ product_below m c (product_below n a v)
unfolding product_below
product_below-exchange zero n a c v = product_below-zero_right n a
product_below-exchange (suc m) n a c v =
    product_below-xor_right n a (product_below m c v) (coefficient c m * times_power m v)
    ∙ ap (λ x. bit_xor x (product_below n a (coefficient c m * times_power m v))) (product_below-exchange m n a c v)
    ∙ ap (bit_xor (product_below m c (product_below n a v)))
    (scale_through (product_below n a) (coefficient c m) (times_power m v) (bit c m) (product_below-zero_right n a)
    ∙ ap (λ x. coefficient c m * x) (product_below-times_power m n a v))

pub product_below-lt : (n a b : ℕ) → b < 2 ^ 128 → product_below n a b < 2 ^ 128
unfolding product_below
product_below-lt zero a b h = omega arith
product_below-lt (suc n) a b h =
    xor_lt 128 (product_below n a b) (coefficient a n * times_power n b) (product_below-lt n a b h)
    (scale_lt 128 (coefficient a n) (times_power n b) (bit a n) (times_power-lt n b h))

-- ---- the block 1, whose leftmost bit alone is set

times_x-pow : (j : ℕ) → times_x (2 ^ suc j) ≡ 2 ^ j
unfolding times_x
times_x-pow j =
    let half : 2 ^ suc j / 2 ≡ 2 ^ j = omega (arith, pow-suc 2 j) in
    let even : 2 ^ suc j % 2 ≡ 0 = omega (arith, pow-suc 2 j) in
    ap (λ x. bit_xor x (2 ^ suc j % 2 * reduction)) half ∙ ap (λ x. bit_xor (2 ^ j) (x * reduction)) even ∙ xor_zero_r (2 ^ j)

times_power-pow : (i j k : ℕ) → i + j ≡ k → times_power i (2 ^ k) ≡ 2 ^ j
unfolding times_power
times_power-pow zero j k e = let s : k ≡ j = omega arith in ap (λ x. 2 ^ x) s
times_power-pow (suc i) j k e = ap times_x (times_power-pow i (suc j) k (omega arith)) ∙ times_x-pow j

-- the part of a whose bits stand at k and above
product_below-one : (n k a : ℕ) → a < 2 ^ 128 → n + k ≡ 128 → product_below n a (2 ^ 127) ≡ a / 2 ^ k * 2 ^ k
unfolding product_below
product_below-one zero k a h e =
    let s : k ≡ 128 = omega arith in
    let z : a / 2 ^ 128 * 2 ^ 128 ≡ 0 = omega arith in
    sym (ap (λ x. a / 2 ^ x * 2 ^ x) s ∙ z)
product_below-one (suc n) k a h e =
    let place : 127 - n ≡ k = omega arith in
    let q : ℕ = a / 2 ^ k in
    let rest : q % 2 < 2 = omega arith in
    let fits : q % 2 * 2 ^ k < 2 ^ suc k = scale_fits (q % 2) k rest in
    ap (λ x. bit_xor x (coefficient a n * times_power n (2 ^ 127))) (product_below-one n (suc k) a h (omega arith))
    ∙ ap (λ x. bit_xor (a / 2 ^ suc k * 2 ^ suc k) (bit_at a x * times_power n (2 ^ 127))) place
    ∙ ap (λ x. bit_xor (a / 2 ^ suc k * 2 ^ suc k) (q % 2 * x)) (times_power-pow n k 127 (omega arith))
    ∙ xor_shifted (a / 2 ^ suc k) (suc k) (q % 2 * 2 ^ k) fits
    ∙ ap (λ x. x * 2 ^ suc k + q % 2 * 2 ^ k) (halves a k)
    ∙ joined q (2 ^ k) (2 ^ suc k) (pow-suc 2 k)
  where
    scale_fits : (c k : ℕ) → c < 2 → c * 2 ^ k < 2 ^ suc k
    scale_fits zero k p = omega (arith, pow-suc 2 k, pow_pos k)
    scale_fits (suc zero) k p = omega (arith, pow-suc 2 k, pow_pos k)
    scale_fits (suc (suc c)) k p = absurd (omega arith)

    halves : (a k : ℕ) → a / 2 ^ suc k ≡ a / 2 ^ k / 2
    halves a k = let s : suc k ≡ k + 1 = omega arith in ap (λ x. a / 2 ^ x) s ∙ sym (shr-shr a k 1)

    joined : (q p r : ℕ) → r ≡ p * 2 → q / 2 * r + q % 2 * p ≡ q * p
    joined q p r e =
        ap (λ x. q / 2 * x + q % 2 * p) (e ∙ mul_comm p 2)
        ∙ ap (λ x. x + q % 2 * p) (sym (mul_assoc (q / 2) 2 p))
        ∙ sym (add-mul (q / 2 * 2) (q % 2) p)
        ∙ ap (λ x. x * p) (div-add-mod' q 2)

pub field_product-one : (a : ℕ) → a < 2 ^ 128 → field_product a (2 ^ 127) ≡ a
unfolding field_product
field_product-one a h = let z : a / 2 ^ 0 * 2 ^ 0 ≡ a = omega arith in product_below-one 128 0 a h refl ∙ z

-- ---- the laws of the field_product

pub field_product-lt : (a b : ℕ) → b < 2 ^ 128 → field_product a b < 2 ^ 128
unfolding field_product
field_product-lt a b h = product_below-lt 128 a b h

pub field_product-xor_left : (a c v : ℕ) → field_product (bit_xor a c) v ≡ bit_xor (field_product a v) (field_product c v)
unfolding field_product
field_product-xor_left a c v = product_below-xor_left 128 a c v

pub field_product-xor_right : (a u v : ℕ) → field_product a (bit_xor u v) ≡ bit_xor (field_product a u) (field_product a v)
unfolding field_product
field_product-xor_right a u v = product_below-xor_right 128 a u v

pub field_product-zero_left : (b : ℕ) → field_product 0 b ≡ 0
unfolding field_product
field_product-zero_left b = product_below-zero_left 128 b

field_product-exchange : (a c v : ℕ) → field_product a (field_product c v) ≡ field_product c (field_product a v)
unfolding field_product
field_product-exchange a c v = product_below-exchange 128 128 a c v

pub field_product-comm : (a b : ℕ) → a < 2 ^ 128 → b < 2 ^ 128 → field_product a b ≡ field_product b a
field_product-comm a b p q =
    ap (field_product a) (sym (field_product-one b q)) ∙ field_product-exchange a b (2 ^ 127) ∙ ap (field_product b) (field_product-one a p)

pub field_product-assoc : (a b c : ℕ) → a < 2 ^ 128 → b < 2 ^ 128 → c < 2 ^ 128 → field_product (field_product a b) c ≡ field_product a (field_product b c)
field_product-assoc a b c p q r =
    field_product-comm (field_product a b) c (field_product-lt a b q) r ∙ field_product-exchange c a b ∙ ap (field_product a) (field_product-comm c b r q)

pub field_product-times_x_right : (a b : ℕ) → field_product a (times_x b) ≡ times_x (field_product a b)
unfolding field_product
field_product-times_x_right a b = product_below-times_x 128 a b

pub field_product-times_x_left : (a b : ℕ) → a < 2 ^ 128 → b < 2 ^ 128 → field_product (times_x a) b ≡ times_x (field_product a b)
field_product-times_x_left a b p q =
    field_product-comm (times_x a) b (times_x-lt a p) q ∙ field_product-times_x_right b a ∙ ap times_x (field_product-comm b a q p)

-- ---- the steps of a loop over the coefficients

pub product_below-next : (n a b c : ℕ) → coefficient a n ≡ c → product_below (n + 1) a b ≡ bit_xor (product_below n a b) (c * times_power n b)
unfolding product_below
product_below-next n a b c e = let s : n + 1 ≡ suc n = omega arith in ap (λ x. product_below x a b) s ∙ ap (λ x. bit_xor (product_below n a b) (x * times_power n b)) e

pub times_power-next : (n b : ℕ) → times_power (n + 1) b ≡ times_x (times_power n b)
unfolding times_power
times_power-next n b = let s : n + 1 ≡ suc n = omega arith in ap (λ x. times_power x b) s

pub sum_with_bit : (n a b s t : ℕ) → s ≡ product_below n a b → t ≡ times_power n b → coefficient a n ≡ 1 → bit_xor s t ≡ product_below (n + 1) a b
sum_with_bit n a b s t p q e =
    ap (λ x. bit_xor x t) p ∙ ap (bit_xor (product_below n a b)) (q ∙ sym (one_times (times_power n b))) ∙ sym (product_below-next n a b 1 e)

pub sum_without_bit : (n a b s : ℕ) → s ≡ product_below n a b → coefficient a n ≡ 0 → s ≡ product_below (n + 1) a b
sum_without_bit n a b s p e =
    p ∙ sym (product_below-next n a b 0 e ∙ ap (bit_xor (product_below n a b)) (zero_times (times_power n b)) ∙ xor_zero_r (product_below n a b))

pub bit_clear : (n i : ℕ) → bit_and (n / 2 ^ i) 1 ≢ 1 → bit_at n i ≡ 0
bit_clear n i h = omega (arith, shr_and_one n i, bit_at-lt n i)

-- ---- four coefficients at a time

times_x-shifted : (q j : ℕ) → times_x (q * 2 ^ suc j) ≡ q * 2 ^ j
unfolding times_x
times_x-shifted q j =
    ap (λ x. bit_xor x (q * 2 ^ suc j % 2 * reduction)) (shifted_half q j)
    ∙ ap (λ x. bit_xor (q * 2 ^ j) (x * reduction)) (shifted_even q j) ∙ xor_zero_r (q * 2 ^ j)

pub times_power-shifted : (i q j k : ℕ) → i + j ≡ k → times_power i (q * 2 ^ k) ≡ q * 2 ^ j
unfolding times_power
times_power-shifted zero q j k e = let s : k ≡ j = omega arith in ap (λ x. q * 2 ^ x) s
times_power-shifted (suc i) q j k e = ap times_x (times_power-shifted i q (suc j) k (omega arith)) ∙ times_x-shifted q j

pub field_product-times_power_left : (i a b : ℕ) → a < 2 ^ 128 → b < 2 ^ 128 → field_product (times_power i a) b ≡ times_power i (field_product a b)
unfolding times_power
field_product-times_power_left zero a b p q = refl
field_product-times_power_left (suc i) a b p q =
    field_product-times_x_left (times_power i a) b (times_power-lt i a p) q ∙ ap times_x (field_product-times_power_left i a b p q)

-- the field_product by a nibble alone has four terms
product_below-nibble : (n j h : ℕ) → product_below (n + 4) (j * 2 ^ 124) h ≡ product_below 4 (j * 2 ^ 124) h
unfolding product_below
product_below-nibble zero j h = refl
product_below-nibble (suc n) j h =
    let s : suc n + 4 ≡ suc (n + 4) = omega arith in
    let place : 127 - (n + 4) < 124 = omega arith in
    let none : bit_at (j * 2 ^ 124) (127 - (n + 4)) ≡ 0 =
    ap (λ y. bit_at y (127 - (n + 4))) (sym (add-zero (j * 2 ^ 124))) ∙ bit_at_cat_low j 124 0 (127 - (n + 4)) place ∙ bit_at-zero (127 - (n + 4)) in
    ap (λ y. product_below y (j * 2 ^ 124) h) s
    ∙ ap (λ y. bit_xor (product_below (n + 4) (j * 2 ^ 124) h) (y * times_power (n + 4) h)) none
    ∙ ap (bit_xor (product_below (n + 4) (j * 2 ^ 124) h)) (zero_times (times_power (n + 4) h))
    ∙ xor_zero_r (product_below (n + 4) (j * 2 ^ 124) h)
    ∙ product_below-nibble n j h

pub field_product-nibble : (j h : ℕ) → field_product (j * 2 ^ 124) h ≡ product_below 4 (j * 2 ^ 124) h
unfolding field_product
field_product-nibble j h = product_below-nibble 124 j h
