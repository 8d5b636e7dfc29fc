-- A product by the bytes of a block, summed by the bytes of the multiples: what a look-up on sixteen lanes gives.
use Rattle.std.proofs.Common.{List, [], ◌∷◌, slice_index, get_or, length, map, replicate, take, subst, ◌≡◌, ℕ, zero, suc, ◌+◌, ◌*◌, ◌/◌, ◌%◌, ◌^◌, ◌<◌, ◌-◌, ◌≤◌, ◌++◌, refl, sym, ap, ◌∙◌, arith, bit_xor, bit_and, cond, get_or-take, length-take, ⊎_elim}
use Rattle.std.specs.Int.Bits.{xor_assoc, xor_comm, xor_zero_r, xor_shifted, xor_lt}
use Rattle.std.specs.List.{range_with_len}
use Rattle.std.specs.Simd.Lanes.{zip2, pick_l}
use Rattle.std.proofs.lemmas.Bool.{lt-leb, cases_lt}
use Rattle.std.proofs.lemmas.List.{get_or-map, get_or_past, length-map}
use Rattle.std.proofs.lemmas.List.FromFn.{get_or-map-range_with_len, fill_by_all}
use Rattle.std.proofs.lemmas.Simd.{get_or-zip2}
use Rattle.std.proofs.Math.Nat.{mul_assoc, add-mul}
use Rattle.std.proofs.lemmas.Nat.{pow-add, shl_below, shr-shr, and_mask, xor_block}
use Rattle.cookie_crypt.specs.Bytes.{IsBytes}
use Rattle.cookie_crypt.specs.Code.{row, column, columns}
use Rattle.cookie_crypt.specs.Gcm.{number_of, bytes_of}
use Rattle.cookie_crypt.specs.Lanes.{entry, looked_up}
use Rattle.cookie_crypt.proofs.BytesLemmas.{bytes_made, bytes_number}
use Rattle.cookie_crypt.specs.BlockField.{times_x, times_power, field_product}
use Rattle.cookie_crypt.proofs.ProductLemmas.{xor_swap, times_power-xor, times_power-zero, times_power-times_x, times_power-next, times_power-shifted, product_below-times_power, field_product-one, field_product-lt, times_power-lt, field_product-xor_right, field_product-xor_left, field_product-zero_left, field_product-times_power_left}

-- ---- sums

-- the sum of what f gives below n
unfoldable pub sum_of : (ℕ → ℕ) → ℕ → ℕ
sum_of f zero = 0
sum_of f (suc n) = bit_xor (sum_of f n) (f n)

sum_of-same : (f g : ℕ → ℕ) → ((i : ℕ) → f i ≡ g i) → (n : ℕ) → sum_of f n ≡ sum_of g n
unfolding sum_of
sum_of-same f g same zero = refl
sum_of-same f g same (suc n) = ap (λ x. bit_xor x (f n)) (sum_of-same f g same n) ∙ ap (bit_xor (sum_of g n)) (same n)

sum_of-xor : (f g : ℕ → ℕ) (n : ℕ) → sum_of (λ i. bit_xor (f i) (g i)) n ≡ bit_xor (sum_of f n) (sum_of g n)
unfolding sum_of
sum_of-xor f g zero = refl
sum_of-xor f g (suc n) = ap (λ x. bit_xor x (bit_xor (f n) (g n))) (sum_of-xor f g n) ∙ xor_swap (sum_of f n) (sum_of g n) (f n) (g n)

sum_of-none : (n : ℕ) → sum_of (λ i. 0) n ≡ 0
unfolding sum_of
sum_of-none zero = refl
sum_of-none (suc n) = xor_zero_r (sum_of (λ i. 0) n) ∙ sum_of-none n

sum_of-exchange : (f : ℕ → ℕ → ℕ) (m n : ℕ) → sum_of (λ i. sum_of (f i) n) m ≡ sum_of (λ b. sum_of (λ i. f i b) m) n
unfolding sum_of
sum_of-exchange f zero n = sym (sum_of-none n)
sum_of-exchange f (suc m) n = ap (λ x. bit_xor x (sum_of (f m) n)) (sum_of-exchange f m n) ∙ sym (sum_of-xor (λ b. sum_of (λ i. f i b) m) (f m) n)

times_power-sum : (k : ℕ) (f : ℕ → ℕ) (n : ℕ) → times_power k (sum_of f n) ≡ sum_of (λ i. times_power k (f i)) n
unfolding sum_of
times_power-sum k f zero = times_power-zero k
times_power-sum k f (suc n) = times_power-xor k (sum_of f n) (f n) ∙ ap (λ x. bit_xor x (times_power k (f n))) (times_power-sum k f n)

times_power-swap : (i j b : ℕ) → times_power i (times_power j b) ≡ times_power j (times_power i b)
unfolding times_power
times_power-swap zero j b = refl
times_power-swap (suc i) j b = ap times_x (times_power-swap i j b) ∙ sym (times_power-times_x j (times_power i b))

-- Row i is the multiple that lane i looks up, by its bytes. The sum of the rows, each moved by its lane, is the sum of
-- the columns, each moved by its byte.
pub rows_and_columns : (f : ℕ → ℕ → ℕ) (m n : ℕ)
    → sum_of (λ i. times_power (8 * i) (sum_of (λ b. times_power (8 * b) (f i b)) n)) m ≡ sum_of (λ b. times_power (8 * b) (sum_of (λ i. times_power (8 * i) (f i b)) m)) n
rows_and_columns f m n =
    sum_of-same (λ i. times_power (8 * i) (sum_of (λ b. times_power (8 * b) (f i b)) n)) (λ i. sum_of (λ b. times_power (8 * i) (times_power (8 * b) (f i b))) n)
    (λ i. times_power-sum (8 * i) (λ b. times_power (8 * b) (f i b)) n) m
    ∙ sum_of-exchange (λ i b. times_power (8 * i) (times_power (8 * b) (f i b))) m n
    ∙ sum_of-same (λ b. sum_of (λ i. times_power (8 * i) (times_power (8 * b) (f i b))) m) (λ b. times_power (8 * b) (sum_of (λ i. times_power (8 * i) (f i b)) m))
    (λ b. sum_of-same (λ i. times_power (8 * i) (times_power (8 * b) (f i b))) (λ i. times_power (8 * b) (times_power (8 * i) (f i b))) (λ i. times_power-swap (8 * i) (8 * b) (f i b)) m
    ∙ sym (times_power-sum (8 * b) (λ i. times_power (8 * i) (f i b)) m)) n

-- ---- what has moved out

times_power-add : (i j b : ℕ) → times_power i (times_power j b) ≡ times_power (i + j) b
unfolding times_power
times_power-add zero j b = let s : j ≡ 0 + j = omega arith in ap (λ n. times_power n b) s
times_power-add (suc i) j b =
    let s : i + j + 1 ≡ suc i + j = omega arith in
    ap times_x (times_power-add i j b) ∙ sym (times_power-next (i + j) b) ∙ ap (λ n. times_power n b) s

x_to_128 : times_power 128 (2 ^ 127) ≡ bit_xor (bit_xor (bit_xor (2 ^ 127) (times_power 1 (2 ^ 127))) (times_power 2 (2 ^ 127))) (times_power 7 (2 ^ 127))
unfolding times_power times_x
x_to_128 = refl

by_one : (i v : ℕ) → v < 2 ^ 128 → field_product v (times_power i (2 ^ 127)) ≡ times_power i v
unfolding field_product
by_one i v h = product_below-times_power i 128 v (2 ^ 127) ∙ ap (times_power i) (field_product-one v h)

-- x ^ 128 is 1 + x + x ^ 2 + x ^ 7
pub times_power-128 : (v : ℕ) → v < 2 ^ 128 → times_power 128 v ≡ bit_xor (bit_xor (bit_xor v (times_power 1 v)) (times_power 2 v)) (times_power 7 v)
times_power-128 v h =
    let a : ℕ = 2 ^ 127 in
    let b : ℕ = times_power 1 (2 ^ 127) in
    let c : ℕ = times_power 2 (2 ^ 127) in
    let d : ℕ = times_power 7 (2 ^ 127) in
    sym (by_one 128 v h) ∙ ap (field_product v) x_to_128
    ∙ field_product-xor_right v (bit_xor (bit_xor a b) c) d
    ∙ ap (λ x. bit_xor x (field_product v d)) (field_product-xor_right v (bit_xor a b) c)
    ∙ ap (λ x. bit_xor (bit_xor x (field_product v c)) (field_product v d)) (field_product-xor_right v a b)
    ∙ ap (λ x. bit_xor (bit_xor (bit_xor x (field_product v b)) (field_product v c)) (field_product v d)) (field_product-one v h)
    ∙ ap (λ x. bit_xor (bit_xor (bit_xor v x) (field_product v c)) (field_product v d)) (by_one 1 v h)
    ∙ ap (λ x. bit_xor (bit_xor (bit_xor v (times_power 1 v)) x) (field_product v d)) (by_one 2 v h)
    ∙ ap (bit_xor (bit_xor (bit_xor v (times_power 1 v)) (times_power 2 v))) (by_one 7 v h)

-- fifteen bytes that have moved out, folded back by shifts alone
pub folded_back : (q : ℕ) → q < 2 ^ 120 → times_power 128 (q * 2 ^ 8) ≡ bit_xor (bit_xor (bit_xor (q * 2 ^ 8) (q * 2 ^ 7)) (q * 2 ^ 6)) (q * 2 ^ 1)
folded_back q h =
    times_power-128 (q * 2 ^ 8) (omega arith)
    ∙ ap (λ x. bit_xor (bit_xor (bit_xor (q * 2 ^ 8) x) (times_power 2 (q * 2 ^ 8))) (times_power 7 (q * 2 ^ 8))) (times_power-shifted 1 q 7 8 refl)
    ∙ ap (λ x. bit_xor (bit_xor (bit_xor (q * 2 ^ 8) (q * 2 ^ 7)) x) (times_power 7 (q * 2 ^ 8))) (times_power-shifted 2 q 6 8 refl)
    ∙ ap (bit_xor (bit_xor (bit_xor (q * 2 ^ 8) (q * 2 ^ 7)) (q * 2 ^ 6))) (times_power-shifted 7 q 1 8 refl)

moved_byte : (low : ℕ) → times_power 8 low ≡ bit_xor (low / 256) (times_power 128 (low % 256 * 2 ^ 120))
moved_byte low =
    let e : ℕ = low % 256 in
    let small : e < 256 = omega arith in
    let whole : low ≡ low / 256 * 2 ^ 8 + low % 256 = omega arith in
    let high : low / 256 * 2 ^ 0 ≡ low / 256 = omega arith in
    let own : e * 2 ^ 0 ≡ e = omega arith in
    ap (times_power 8) (whole ∙ sym (xor_shifted (low / 256) 8 e small))
    ∙ times_power-xor 8 (low / 256 * 2 ^ 8) e
    ∙ ap (λ x. bit_xor x (times_power 8 e)) (times_power-shifted 8 (low / 256) 0 8 refl ∙ high)
    ∙ ap (bit_xor (low / 256)) (sym (ap (times_power 8) (times_power-shifted 120 e 0 120 refl ∙ own)) ∙ times_power-add 8 120 (e * 2 ^ 120))

-- One step: the bytes of both halves move one lane on, and the last byte of the first becomes the first of the second.
pub moved_lane : (low q : ℕ) → q < 2 ^ 120
    → times_power 8 (bit_xor low (times_power 128 (q * 2 ^ 8))) ≡ bit_xor (low / 256) (times_power 128 (low % 256 * 2 ^ 120 + q))
moved_lane low q h =
    let there : q * 2 ^ 0 ≡ q = omega arith in
    times_power-xor 8 low (times_power 128 (q * 2 ^ 8))
    ∙ ap (λ x. bit_xor x (times_power 8 (times_power 128 (q * 2 ^ 8)))) (moved_byte low)
    ∙ ap (bit_xor (bit_xor (low / 256) (times_power 128 (low % 256 * 2 ^ 120)))) (times_power-swap 8 128 (q * 2 ^ 8) ∙ ap (times_power 128) (times_power-shifted 8 q 0 8 refl ∙ there))
    ∙ xor_assoc (low / 256) (times_power 128 (low % 256 * 2 ^ 120)) (times_power 128 q)
    ∙ ap (bit_xor (low / 256)) (sym (times_power-xor 128 (low % 256 * 2 ^ 120) q) ∙ ap (times_power 128) (xor_shifted (low % 256) 120 q h))

-- ---- a block by its bytes

-- the number that the first n bytes write
unfoldable first_bytes : List ℕ → ℕ → ℕ
first_bytes xs zero = 0
first_bytes xs (suc n) = first_bytes xs n * 2 ^ 8 + slice_index xs n

one_more : (q b m : ℕ) → b < 256 → bit_xor (q * 2 ^ (m + 8)) (b * 2 ^ m) ≡ (q * 2 ^ 8 + b) * 2 ^ m
one_more q b m h =
    let small : b * 2 ^ m < 2 ^ (8 + m) = shl_below b 8 m h in
    let turn : 8 + m ≡ m + 8 = omega arith in
    xor_shifted q (m + 8) (b * 2 ^ m) (subst (λ k. b * 2 ^ m < 2 ^ k) turn small)
    ∙ ap (λ y. q * y + b * 2 ^ m) (ap (λ k. 2 ^ k) (sym turn) ∙ pow-add 2 8 m)
    ∙ sym (add-mul (q * 2 ^ 8) b (2 ^ m) ∙ ap (λ y. y + b * 2 ^ m) (mul_assoc q (2 ^ 8) (2 ^ m)))

sum_of_bytes : (xs : List ℕ) → IsBytes xs → (n m : ℕ) → 8 * n + m ≡ 128
    → sum_of (λ i. times_power (8 * i) (slice_index xs i * 2 ^ 120)) n ≡ first_bytes xs n * 2 ^ m
unfolding sum_of first_bytes
sum_of_bytes xs p zero m e = omega arith
sum_of_bytes xs p (suc n) m e =
    ap (λ x. bit_xor x (times_power (8 * n) (slice_index xs n * 2 ^ 120))) (sum_of_bytes xs p n (m + 8) (omega arith))
    ∙ ap (bit_xor (first_bytes xs n * 2 ^ (m + 8))) (times_power-shifted (8 * n) (slice_index xs n) m 120 (omega arith))
    ∙ one_more (first_bytes xs n) (slice_index xs n) m (p n)

-- a block's number is the sum of its bytes, each moved to its place
pub number_by_bytes : (xs : List ℕ) → IsBytes xs → number_of xs ≡ sum_of (λ i. times_power (8 * i) (slice_index xs i * 2 ^ 120)) 16
unfolding number_of first_bytes
number_by_bytes xs p =
    let same : number_of xs ≡ first_bytes xs 16 * 2 ^ 0 = omega arith in
    same ∙ sym (sum_of_bytes xs p 16 0 refl)

field_product-sum : (f : ℕ → ℕ) (h n : ℕ) → field_product (sum_of f n) h ≡ sum_of (λ i. field_product (f i) h) n
unfolding sum_of
field_product-sum f h zero = field_product-zero_left h
field_product-sum f h (suc n) = field_product-xor_left (sum_of f n) (f n) h ∙ ap (λ x. bit_xor x (field_product (f n) h)) (field_product-sum f h n)

-- a product is the sum of those of the block's bytes, each moved to its place
pub product_by_bytes : (xs : List ℕ) (h : ℕ) → IsBytes xs → h < 2 ^ 128
    → field_product (number_of xs) h ≡ sum_of (λ i. times_power (8 * i) (field_product (slice_index xs i * 2 ^ 120) h)) 16
product_by_bytes xs h p q =
    ap (λ x. field_product x h) (number_by_bytes xs p)
    ∙ field_product-sum (λ i. times_power (8 * i) (slice_index xs i * 2 ^ 120)) h 16
    ∙ sum_of-same (λ i. field_product (times_power (8 * i) (slice_index xs i * 2 ^ 120)) h) (λ i. times_power (8 * i) (field_product (slice_index xs i * 2 ^ 120) h))
    (λ i. field_product-times_power_left (8 * i) (slice_index xs i * 2 ^ 120) h (omega (arith, p i)) q) 16

-- ---- numbers and their bytes

next_byte : (n k : ℕ) → n / 2 ^ k ≡ n / 2 ^ k % 256 + n / 2 ^ (k + 8) * 256
next_byte n k = omega (arith, shr-shr n k 8)

-- a number is what its bytes write
pub number_of-bytes_of : (n : ℕ) → n < 2 ^ 128 → number_of (bytes_of n) ≡ n
unfolding number_of bytes_of
number_of-bytes_of n h =
    omega (
      arith,
      next_byte n 8,
      next_byte n 16,
      next_byte n 24,
      next_byte n 32,
      next_byte n 40,
      next_byte n 48,
      next_byte n 56,
      next_byte n 64,
      next_byte n 72,
      next_byte n 80,
      next_byte n 88,
      next_byte n 96,
      next_byte n 104,
      next_byte n 112,
    )

-- what sixteen bytes are worth, each moved to its place
abbrev byte_sum : (ℕ → ℕ) → ℕ
byte_sum f = sum_of (λ i. times_power (8 * i) (f i * 2 ^ 120)) 16

sum_of-below : (f g : ℕ → ℕ) (n : ℕ) → ((i : ℕ) → i < n → f i ≡ g i) → sum_of f n ≡ sum_of g n
unfolding sum_of
sum_of-below f g zero same = refl
sum_of-below f g (suc n) same =
    ap (λ x. bit_xor x (f n)) (sum_of-below f g n (λ i h. same i (omega arith))) ∙ ap (bit_xor (sum_of g n)) (same n (omega arith))

byte_sum-same : (f g : ℕ → ℕ) → ((i : ℕ) → i < 16 → f i ≡ g i) → byte_sum f ≡ byte_sum g
byte_sum-same f g same =
    sum_of-below (λ i. times_power (8 * i) (f i * 2 ^ 120)) (λ i. times_power (8 * i) (g i * 2 ^ 120)) 16
    (λ i h. ap (λ x. times_power (8 * i) (x * 2 ^ 120)) (same i h))

moved_sum : (a b : ℕ) → bit_xor a b * 2 ^ 120 ≡ bit_xor (a * 2 ^ 120) (b * 2 ^ 120)
moved_sum a b =
    let first : a * 2 ^ 120 + 0 ≡ a * 2 ^ 120 = omega arith in
    let second : b * 2 ^ 120 + 0 ≡ b * 2 ^ 120 = omega arith in
    let whole : bit_xor a b * 2 ^ 120 + bit_xor 0 0 ≡ bit_xor a b * 2 ^ 120 = omega (arith, xor_zero_r 0) in
    sym whole ∙ sym (xor_block 120 a b 0 0 (omega arith) (omega arith))
    ∙ ap (λ x. bit_xor x (b * 2 ^ 120 + 0)) first ∙ ap (bit_xor (a * 2 ^ 120)) second

byte_sum-xor : (f g : ℕ → ℕ) → byte_sum (λ i. bit_xor (f i) (g i)) ≡ bit_xor (byte_sum f) (byte_sum g)
byte_sum-xor f g =
    sum_of-same (λ i. times_power (8 * i) (bit_xor (f i) (g i) * 2 ^ 120)) (λ i. bit_xor (times_power (8 * i) (f i * 2 ^ 120)) (times_power (8 * i) (g i * 2 ^ 120)))
    (λ i. ap (times_power (8 * i)) (moved_sum (f i) (g i)) ∙ times_power-xor (8 * i) (f i * 2 ^ 120) (g i * 2 ^ 120)) 16
    ∙ sum_of-xor (λ i. times_power (8 * i) (f i * 2 ^ 120)) (λ i. times_power (8 * i) (g i * 2 ^ 120)) 16

pub bytes_zipped : (xs ys : List ℕ) → IsBytes xs → IsBytes ys → (i : ℕ) → slice_index (zip2 bit_xor xs ys) i < 256
bytes_zipped [] ys p q i = omega arith
bytes_zipped (x ∷ xs) [] p q i = omega arith
bytes_zipped (x ∷ xs) (y ∷ ys) p q zero = xor_lt 8 x y (p 0) (q 0)
bytes_zipped (x ∷ xs) (y ∷ ys) p q (suc i) = bytes_zipped xs ys (λ k. p (suc k)) (λ k. q (suc k)) i

-- the sum of two blocks, lane by lane
pub number_of-xor : (xs ys : List ℕ) → IsBytes xs → IsBytes ys → length xs ≡ 16 → length ys ≡ 16
    → number_of (zip2 bit_xor xs ys) ≡ bit_xor (number_of xs) (number_of ys)
number_of-xor xs ys p q m n =
    number_by_bytes (zip2 bit_xor xs ys) (bytes_zipped xs ys p q)
    ∙ byte_sum-same (slice_index (zip2 bit_xor xs ys)) (λ i. bit_xor (slice_index xs i) (slice_index ys i))
    (λ i h. get_or-zip2 bit_xor xs ys i 0 0 0 (omega (arith, m)) (omega (arith, n)))
    ∙ byte_sum-xor (slice_index xs) (slice_index ys)
    ∙ ap (λ x. bit_xor x (byte_sum (slice_index ys))) (sym (number_by_bytes xs p))
    ∙ ap (bit_xor (number_of xs)) (sym (number_by_bytes ys q))

-- ---- zeros

pub no_lane : (n i : ℕ) → slice_index (replicate n 0) i ≡ 0
no_lane zero i = refl
no_lane (suc n) zero = refl
no_lane (suc n) (suc i) = no_lane n i

pub no_lane-lt : (n i : ℕ) → slice_index (replicate n 0) i < 256
no_lane-lt n i = omega (arith, no_lane n i)

pub no_number : number_of (replicate 16 0) ≡ 0
unfolding number_of
no_number = refl

-- ---- one lane on

by_lane : (xs : List ℕ) → length xs ≡ 16 → xs ≡ map (slice_index xs) (range_with_len 0 16)
by_lane xs long = fill_by_all (slice_index xs) xs 16 0 long (λ k h. refl)

pub length-moved : (before bytes : List ℕ) → length bytes ≡ 16 → length (take 16 (slice_index before 15 ∷ bytes)) ≡ 16
length-moved before bytes long = ap (λ l. length (take 16 (slice_index before 15 ∷ l))) (by_lane bytes long)

-- the lanes that shuffle picks
pub shuffled : (before bytes : List ℕ) → length before ≡ 16 → length bytes ≡ 16
    → pick_l 0 (before ++ bytes) (15 ∷ 16 ∷ 17 ∷ 18 ∷ 19 ∷ 20 ∷ 21 ∷ 22 ∷ 23 ∷ 24 ∷ 25 ∷ 26 ∷ 27 ∷ 28 ∷ 29 ∷ 30 ∷ []) ≡ take 16 (slice_index before 15 ∷ bytes)
shuffled before bytes p q =
    ap (λ l. pick_l 0 (l ++ bytes) (15 ∷ 16 ∷ 17 ∷ 18 ∷ 19 ∷ 20 ∷ 21 ∷ 22 ∷ 23 ∷ 24 ∷ 25 ∷ 26 ∷ 27 ∷ 28 ∷ 29 ∷ 30 ∷ [])) (by_lane before p)
    ∙ sym (ap (λ l. take 16 (slice_index before 15 ∷ l)) (by_lane bytes q))

pub bytes_moved : (x : ℕ) (bytes : List ℕ) → x < 256 → IsBytes bytes → length bytes ≡ 16 → (i : ℕ) → slice_index (take 16 (x ∷ bytes)) i < 256
bytes_moved x bytes h p long zero = h
bytes_moved x bytes h p long (suc i) =
    ⊎_elim
    (λ inside. let e : slice_index (take 15 bytes) i ≡ slice_index bytes i = get_or-take 15 bytes i 0 inside in omega (arith, e, p i))
    (λ past. let e : slice_index (take 15 bytes) i ≡ 0 = get_or_past (take 15 bytes) i 0 (omega (arith, length-take 15 bytes)) in omega (arith, e))
    (cases_lt i 15)

-- the zeros at the end move on
pub ends_moved : (x : ℕ) (bytes : List ℕ) (done : ℕ) → 1 ≤ done → ((k : ℕ) → done ≤ k + 1 → slice_index bytes k ≡ 0)
    → (k : ℕ) → done + 1 ≤ k + 1 → slice_index (take 16 (x ∷ bytes)) k ≡ 0
ends_moved x bytes done h p zero q = absurd (omega arith)
ends_moved x bytes done h p (suc k) q =
    ⊎_elim
    (λ inside. get_or-take 15 bytes k 0 inside ∙ p k (omega arith))
    (λ past. get_or_past (take 15 bytes) k 0 (omega (arith, length-take 15 bytes)))
    (cases_lt k 15)

number_of-lt : (xs : List ℕ) → IsBytes xs → number_of xs < 2 ^ 128
unfolding number_of
number_of-lt xs p = omega (arith, p 0, p 1, p 2, p 3, p 4, p 5, p 6, p 7, p 8, p 9, p 10, p 11, p 12, p 13, p 14, p 15)

pub last_lane : (xs : List ℕ) → slice_index xs 15 < 256 → number_of xs % 256 ≡ slice_index xs 15
unfolding number_of
last_lane xs h = omega arith

moved_number : (before bytes : List ℕ) → slice_index before 15 < 256 → slice_index bytes 15 < 256
    → number_of (take 16 (slice_index before 15 ∷ map (slice_index bytes) (range_with_len 0 16))) ≡ number_of before % 256 * 2 ^ 120 + number_of bytes / 256
unfolding number_of
moved_number before bytes p q = omega arith

pub number_of-moved : (before bytes : List ℕ) → length bytes ≡ 16 → slice_index before 15 < 256 → slice_index bytes 15 < 256
    → number_of (take 16 (slice_index before 15 ∷ bytes)) ≡ number_of before % 256 * 2 ^ 120 + number_of bytes / 256
number_of-moved before bytes long p q =
    ap (λ l. number_of (take 16 (slice_index before 15 ∷ l))) (by_lane bytes long) ∙ moved_number before bytes p q

pub number_of-moved_zero : (bytes : List ℕ) → IsBytes bytes → length bytes ≡ 16 → number_of (take 16 (slice_index (replicate 16 0) 15 ∷ bytes)) ≡ number_of bytes / 256
number_of-moved_zero bytes p long =
    number_of-moved (replicate 16 0) bytes long (no_lane-lt 16 15) (p 15) ∙ omega (arith, no_number)

-- ---- the columns, from the last to the first

-- what is summed after n columns
unfoldable pub summed : (ℕ → ℕ) → ℕ → ℕ
summed f zero = 0
summed f (suc n) = bit_xor (times_power 8 (summed f n)) (f (15 - n))

pub summed-next : (f : ℕ → ℕ) (n : ℕ) → bit_xor (times_power 8 (summed f n)) (f (15 - n)) ≡ summed f (n + 1)
unfolding summed
summed-next f n = let s : suc n ≡ n + 1 = omega arith in ap (summed f) s

pub summed-one : (f : ℕ → ℕ) → summed f 1 ≡ f 15
unfolding summed
summed-one f = ap (λ x. bit_xor x (f 15)) (times_power-zero 8) ∙ xor_comm 0 (f 15) ∙ xor_zero_r (f 15)

sum_of-front : (f : ℕ → ℕ) (n : ℕ) → bit_xor (f 0) (sum_of (λ i. f (suc i)) n) ≡ sum_of f (suc n)
unfolding sum_of
sum_of-front f zero = xor_comm (f 0) 0
sum_of-front f (suc n) = sym (xor_assoc (f 0) (sum_of (λ i. f (suc i)) n) (f (suc n))) ∙ ap (λ x. bit_xor x (f (suc n))) (sum_of-front f n)

times_power-none : (x : ℕ) → times_power (8 * 0) x ≡ x
unfolding times_power
times_power-none x = refl

summed-sum : (f : ℕ → ℕ) (n m : ℕ) → n + m ≡ 16 → summed f n ≡ sum_of (λ b. times_power (8 * b) (f (b + m))) n
unfolding summed sum_of
summed-sum f zero m e = refl
summed-sum f (suc n) m e =
    let this : 15 - n ≡ 0 + m = omega arith in
    ap (λ x. bit_xor (times_power 8 x) (f (15 - n))) (summed-sum f n (suc m) (omega arith))
    ∙ ap (λ x. bit_xor x (f (15 - n)))
    (times_power-sum 8 (λ b. times_power (8 * b) (f (b + suc m))) n
    ∙ sum_of-same (λ b. times_power 8 (times_power (8 * b) (f (b + suc m)))) (λ b. times_power (8 * suc b) (f (suc b + m))) (λ b. one_on f m b) n)
    ∙ xor_comm (sum_of (λ b. times_power (8 * suc b) (f (suc b + m))) n) (f (15 - n))
    ∙ ap (λ k. bit_xor (f k) (sum_of (λ b. times_power (8 * suc b) (f (suc b + m))) n)) this
    ∙ ap (λ x. bit_xor x (sum_of (λ b. times_power (8 * suc b) (f (suc b + m))) n)) (sym (times_power-none (f (0 + m))))
    ∙ sum_of-front (λ b. times_power (8 * b) (f (b + m))) n
  where
    one_on : (f : ℕ → ℕ) (m b : ℕ) → times_power 8 (times_power (8 * b) (f (b + suc m))) ≡ times_power (8 * suc b) (f (suc b + m))
    one_on f m b =
        let more : 8 + 8 * b ≡ 8 * suc b = omega arith in
        let place : b + suc m ≡ suc b + m = omega arith in
        times_power-add 8 (8 * b) (f (b + suc m)) ∙ ap (λ k. times_power k (f (b + suc m))) more ∙ ap (λ k. times_power (8 * suc b) (f k)) place

-- one column more: what is summed moves one lane on, and the bytes that leave the block are kept
pub column_more : (low high column old : ℕ) → high < 2 ^ 128 → high % 256 ≡ 0 → bit_xor low (times_power 128 high) ≡ old
    → bit_xor (bit_xor (low / 256) column) (times_power 128 (low % 256 * 2 ^ 120 + high / 256)) ≡ bit_xor (times_power 8 old) column
column_more low high column old fits ends e =
    let q : ℕ = high / 256 in
    let whole : high ≡ q * 2 ^ 8 = omega arith in
    let next : ℕ = times_power 128 (low % 256 * 2 ^ 120 + q) in
    xor_assoc (low / 256) column next ∙ ap (bit_xor (low / 256)) (xor_comm column next) ∙ sym (xor_assoc (low / 256) next column)
    ∙ ap (λ x. bit_xor x column)
    (sym (moved_lane low q (omega arith)) ∙ ap (λ x. times_power 8 (bit_xor low (times_power 128 x))) (sym whole) ∙ ap (times_power 8) e)

pub step_sum : (f : ℕ → ℕ) (first rest column first' rest' : List ℕ) (done : ℕ) → IsBytes rest → slice_index rest 15 ≡ 0
    → number_of first' ≡ bit_xor (number_of first / 256) (number_of column)
    → number_of rest' ≡ number_of first % 256 * 2 ^ 120 + number_of rest / 256
    → number_of column ≡ f (15 - done)
    → bit_xor (number_of first) (times_power 128 (number_of rest)) ≡ summed f done
    → bit_xor (number_of first') (times_power 128 (number_of rest')) ≡ summed f (done + 1)
step_sum f first rest column first' rest' done p ends e1 e2 e3 before =
    ap (λ x. bit_xor x (times_power 128 (number_of rest'))) e1
    ∙ ap (λ x. bit_xor (bit_xor (number_of first / 256) (number_of column)) (times_power 128 x)) e2
    ∙ column_more (number_of first) (number_of rest) (number_of column) (summed f done) (number_of-lt rest p) (last_lane rest (p 15) ∙ ends) before
    ∙ ap (bit_xor (times_power 8 (summed f done))) e3
    ∙ summed-next f done

four_together : (n a b c d : ℕ) → bit_xor (bit_xor (bit_xor (bit_xor n a) b) c) d ≡ bit_xor n (bit_xor (bit_xor (bit_xor a b) c) d)
four_together n a b c d =
    ap (λ x. bit_xor (bit_xor x c) d) (xor_assoc n a b) ∙ ap (λ x. bit_xor x d) (xor_assoc n (bit_xor a b) c) ∙ xor_assoc n (bit_xor (bit_xor a b) c) d

folded_number : (n f : ℕ) → f < 2 ^ 128 → f % 256 ≡ 0
    → bit_xor (bit_xor (bit_xor (bit_xor n f) (f / 2)) (f / 4)) (f / 128) ≡ bit_xor n (times_power 128 f)
folded_number n f h e =
    let q : ℕ = f / 256 in
    let whole : f ≡ q * 2 ^ 8 = omega arith in
    let one : f / 2 ≡ q * 2 ^ 7 = omega arith in
    let two : f / 4 ≡ q * 2 ^ 6 = omega arith in
    let seven : f / 128 ≡ q * 2 ^ 1 = omega arith in
    ap (λ x. bit_xor (bit_xor (bit_xor (bit_xor n f) x) (f / 4)) (f / 128)) one
    ∙ ap (λ x. bit_xor (bit_xor (bit_xor (bit_xor n f) (q * 2 ^ 7)) x) (f / 128)) two
    ∙ ap (bit_xor (bit_xor (bit_xor (bit_xor n f) (q * 2 ^ 7)) (q * 2 ^ 6))) seven
    ∙ ap (λ x. bit_xor (bit_xor (bit_xor (bit_xor n x) (q * 2 ^ 7)) (q * 2 ^ 6)) (q * 2 ^ 1)) whole
    ∙ four_together n (q * 2 ^ 8) (q * 2 ^ 7) (q * 2 ^ 6) (q * 2 ^ 1)
    ∙ ap (bit_xor n) (sym (folded_back q (omega arith)) ∙ ap (times_power 128) (sym whole))

-- what has left the block is folded back
pub folded_sum : (n : ℕ) (rest : List ℕ) → IsBytes rest → slice_index rest 15 ≡ 0
    → bit_xor (bit_xor (bit_xor (bit_xor n (number_of rest)) (number_of rest / 2)) (number_of rest / 4)) (number_of rest / 128) ≡ bit_xor n (times_power 128 (number_of rest))
folded_sum n rest p e = folded_number n (number_of rest) (number_of-lt rest p) (last_lane rest (p 15) ∙ e)

-- ---- the product

-- byte i of a block adds what its two halves look up
two_halves : (x h : ℕ) → x < 256 → h < 2 ^ 128
    → bit_xor (field_product (x / 16 * 2 ^ 124) h) (field_product (x % 16 * 2 ^ 124) (times_power 4 h)) ≡ field_product (x * 2 ^ 120) h
unfolding field_product
two_halves x h p q =
    let upper : ℕ = x / 16 in
    let lower : ℕ = x % 16 in
    let small : lower < 16 = omega arith in
    let fits : lower * 2 ^ 124 < 2 ^ 128 = omega (arith, small) in
    let low : lower * 2 ^ 120 < 2 ^ 124 = omega (arith, small) in
    let whole : x / 16 * 2 ^ 124 + x % 16 * 2 ^ 120 ≡ x * 2 ^ 120 = omega arith in
    ap (bit_xor (field_product (upper * 2 ^ 124) h))
    (product_below-times_power 4 128 (lower * 2 ^ 124) h ∙ sym (field_product-times_power_left 4 (lower * 2 ^ 124) h fits q)
    ∙ ap (λ y. field_product y h) (times_power-shifted 4 lower 120 124 refl))
    ∙ sym (field_product-xor_left (upper * 2 ^ 124) (lower * 2 ^ 120) h)
    ∙ ap (λ y. field_product y h) (xor_shifted upper 124 (lower * 2 ^ 120) low ∙ whole)

entry-below : (t : List ℕ) (j : ℕ) → j < 16 → entry t j ≡ slice_index t j
entry-below t j h = ap (λ b. cond b 0 (slice_index t j)) (lt-leb 128 j (omega arith))

-- what the place j of column b holds
column_at : (tables : List (List ℕ)) (h b j : ℕ) → tables ≡ columns h → b < 16 → j < 16
    → entry (get_or tables b []) j ≡ slice_index (row h j) b
unfolding columns
column_at tables h b j e p q =
    entry-below (get_or tables b []) j q
    ∙ ap (λ l. slice_index l j) (ap (λ t. get_or t b []) e ∙ get_or-map-range_with_len (column h) 0 16 b b [] p (omega arith))
    ∙ get_or-map-range_with_len (λ k. slice_index (row h k) b) 0 16 j j 0 q (omega arith)

module _ (upper lower : List (List ℕ)) (block h : ℕ) (fits : block < 2 ^ 128) (small : h < 2 ^ 128) (is_upper : upper ≡ columns h) (is_lower : lower ≡ columns (times_power 4 h)) where
  abbrev byte : ℕ → ℕ
  byte i = slice_index (bytes_of block) i

  abbrev top : ℕ → ℕ
  top i = field_product (byte i / 16 * 2 ^ 124) h

  abbrev bottom : ℕ → ℕ
  bottom i = field_product (byte i % 16 * 2 ^ 124) (times_power 4 h)

  -- byte b of what byte i adds
  abbrev cell_of : ℕ → ℕ → ℕ
  cell_of b i = bit_xor (slice_index (bytes_of (top i)) b) (slice_index (bytes_of (bottom i)) b)

  abbrev found : ℕ → List ℕ
  found b = looked_up (get_or upper b []) (get_or lower b []) (bytes_of block)

  sixteen : length (bytes_of block) ≡ 16
  unfolding bytes_of
  sixteen = refl

  found_at : (b i : ℕ) → b < 16 → i < 16 → slice_index (found b) i ≡ cell_of b i
  unfolding looked_up
  found_at b i p q =
      let x : ℕ = byte i in
      let is_byte : x < 256 = bytes_number block i in
      get_or-map (λ y. bit_xor (entry (get_or upper b []) (y / 16)) (entry (get_or lower b []) (bit_and y 15))) (bytes_of block) i 0 0 (omega (arith, sixteen))
      ∙ ap (λ j. bit_xor (entry (get_or upper b []) (x / 16)) (entry (get_or lower b []) j)) (and_mask x 4)
      ∙ ap (λ y. bit_xor y (entry (get_or lower b []) (x % 16))) (column_at upper h b (x / 16) is_upper p (omega arith))
      ∙ ap (bit_xor (slice_index (bytes_of (top i)) b)) (column_at lower (times_power 4 h) b (x % 16) is_lower p (omega arith))

  length-found : (b : ℕ) → length (found b) ≡ 16
  unfolding looked_up
  length-found b = length-map (bytes_of block) (λ y. bit_xor (entry (get_or upper b []) (y / 16)) (entry (get_or lower b []) (bit_and y 15))) ∙ sixteen

  number_of-found : (b : ℕ) → b < 16 → number_of (found b) ≡ byte_sum (cell_of b)
  number_of-found b p =
      ap number_of (fill_by_all (cell_of b) (found b) 16 0 (length-found b) (λ k q. found_at b k p q))
      ∙ number_by_bytes (map (cell_of b) (range_with_len 0 16))
      (bytes_made (cell_of b) 16 (λ i. xor_lt 8 (slice_index (bytes_of (top i)) b) (slice_index (bytes_of (bottom i)) b) (bytes_number (top i) b) (bytes_number (bottom i) b)))
      ∙ byte_sum-same (slice_index (map (cell_of b) (range_with_len 0 16))) (cell_of b) (λ i q. get_or-map-range_with_len (cell_of b) 0 16 i i 0 q (omega arith))

  row_sum : (i : ℕ) → byte_sum (λ b. cell_of b i) ≡ field_product (byte i * 2 ^ 120) h
  row_sum i =
      byte_sum-xor (slice_index (bytes_of (top i))) (slice_index (bytes_of (bottom i)))
      ∙ ap (λ x. bit_xor x (byte_sum (slice_index (bytes_of (bottom i)))))
      (sym (number_by_bytes (bytes_of (top i)) (bytes_number (top i))) ∙ number_of-bytes_of (top i) (field_product-lt (byte i / 16 * 2 ^ 124) h small))
      ∙ ap (bit_xor (top i))
      (sym (number_by_bytes (bytes_of (bottom i)) (bytes_number (bottom i))) ∙ number_of-bytes_of (bottom i) (field_product-lt (byte i % 16 * 2 ^ 124) (times_power 4 h) (times_power-lt 4 h small)))
      ∙ two_halves (byte i) h (bytes_number block i) small

  pub product_by_columns : summed (λ b. number_of (found b)) 16 ≡ field_product block h
  product_by_columns =
      summed-sum (λ b. number_of (found b)) 16 0 refl
      ∙ sum_of-below (λ b. times_power (8 * b) (number_of (found (b + 0)))) (λ b. times_power (8 * b) (byte_sum (cell_of b))) 16
      (λ b p. let same : b + 0 ≡ b = omega arith in ap (λ k. times_power (8 * b) (number_of (found k))) same ∙ ap (times_power (8 * b)) (number_of-found b p))
      ∙ sym (rows_and_columns (λ i b. cell_of b i * 2 ^ 120) 16 16)
      ∙ sum_of-same (λ i. times_power (8 * i) (byte_sum (λ b. cell_of b i))) (λ i. times_power (8 * i) (field_product (byte i * 2 ^ 120) h))
      (λ i. ap (times_power (8 * i)) (row_sum i)) 16
      ∙ sym (product_by_bytes (bytes_of block) h (bytes_number block) small)
      ∙ ap (λ x. field_product x h) (number_of-bytes_of block fits)
