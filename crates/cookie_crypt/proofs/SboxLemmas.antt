-- A byte has one inverse, by computing over all bytes.
use Rattle.std.proofs.Common.{◌≡◌, ℕ, zero, suc, map, refl, ◌<◌, ◌≤◌, ap, sym, ◌∙◌, arith, get_or, min, cond, if◌then◌else◌, ◌==◌, ◌+◌, ◌-◌, ⊎_elim, Bool, true, false}
use Rattle.std.specs.List.{range_with_len}
use Rattle.std.proofs.lemmas.Bool.{cases_lt}
use Rattle.std.proofs.lemmas.List.FromFn.{get_or-map-range_with_len}
use Rattle.cookie_crypt.specs.ByteField.{byte_times_x, byte_times_power, byte_product_below, byte_product, inverse_in_last, inverse, IsInverse}

-- two functions that agree on all bytes
pub on_bytes : (f g : ℕ → ℕ) → map f (range_with_len 0 256) ≡ map g (range_with_len 0 256) → (b : ℕ) → b < 256 → f b ≡ g b
on_bytes f g same b h =
    sym (get_or-map-range_with_len f 0 256 b b 0 h (omega arith)) ∙ ap (λ xs. get_or xs b 0) same ∙ get_or-map-range_with_len g 0 256 b b 0 h (omega arith)

product_with_inverse : (b : ℕ) → b < 256 → byte_product b (inverse b) ≡ min b 1
unfolding inverse inverse_in_last byte_product byte_product_below byte_times_power byte_times_x
product_with_inverse = on_bytes (λ b. byte_product b (inverse b)) (λ b. min b 1) refl

either-lt : (test : Bool) (x y : ℕ) → x < 256 → y < 256 → (if test then x else y) < 256
either-lt true x y h k = h
either-lt false x y h k = k

inverse-lt : (count b : ℕ) → inverse_in_last count b < 256
unfolding inverse_in_last
inverse-lt zero b = omega arith
inverse-lt (suc count) b = either-lt (byte_product b (255 - count) == 1) (255 - count) (inverse_in_last count b) (omega arith) (inverse-lt count b)

inverse_of_zero : inverse 0 ≡ 0
unfolding inverse inverse_in_last byte_product byte_product_below byte_times_power byte_times_x
inverse_of_zero = refl

by_lt : {P : Type 0} → (m n : ℕ) → (m < n → P) → (n ≤ m → P) → P
by_lt m n less least = ⊎_elim less least (cases_lt m n)

-- how many numbers below n have the product 1 with b
unfoldable ones_below : ℕ → ℕ → ℕ
ones_below zero b = 0
ones_below (suc n) b = ones_below n b + cond (byte_product b n == 1) 1 0

ones_of_byte : (b : ℕ) → b < 256 → ones_below 256 b ≡ min b 1
unfolding ones_below byte_product byte_product_below byte_times_power byte_times_x
ones_of_byte = on_bytes (ones_below 256) (λ b. min b 1) refl

-- the counted number at the end of the range
counted_last : (b n c : ℕ) → c ≡ n → byte_product b c ≡ 1 → ones_below (suc n) b ≡ ones_below n b + 1
unfolding ones_below
counted_last b n c same one =
    let test : (byte_product b n == 1) ≡ true = ap (λ m. byte_product b m == 1) (sym same) ∙ ap (λ v. v == 1) one in
    ap (λ t. ones_below n b + cond t 1 0) test

grows : (b n : ℕ) → ones_below n b ≤ ones_below (suc n) b
unfolding ones_below
grows b n = omega arith

one_below : (b n c : ℕ) → c < n → byte_product b c ≡ 1 → 1 ≤ ones_below n b
one_below b zero c h one = absurd (omega arith)
one_below b (suc n) c h one =
    by_lt c n
    (λ less. omega (arith, one_below b n c less one, grows b n))
    (λ least. let last : c ≡ n = omega arith in omega (arith, counted_last b n c last one))

two_below : (b n c d : ℕ) → c < d → d < n → byte_product b c ≡ 1 → byte_product b d ≡ 1 → 2 ≤ ones_below n b
two_below b zero c d less h one one' = absurd (omega arith)
two_below b (suc n) c d less h one one' =
    by_lt d n
    (λ inner. omega (arith, two_below b n c d less inner one one', grows b n))
    (λ least. let last : d ≡ n = omega arith in omega (arith, counted_last b n d last one', one_below b n c (omega arith) one))

pub inverse_is : (b : ℕ) → b < 256 → IsInverse b (inverse b)
unfolding inverse
inverse_is b h = record {
  byte = inverse-lt 256 b;
  of_zero = λ none. ap inverse none ∙ inverse_of_zero;
  product = λ some. let one : min b 1 ≡ 1 = omega arith in product_with_inverse b h ∙ one;
  only = λ c fits one.
      let inverse_fits : inverse b < 256 = inverse-lt 256 b in
      let some : 1 ≤ b = omega (arith, one_below b 256 c fits one, ones_of_byte b h) in
      let inverse_one : byte_product b (inverse b) ≡ 1 = omega (arith, product_with_inverse b h) in
      by_lt c (inverse b)
      (λ less. absurd (omega (arith, two_below b 256 c (inverse b) less inverse_fits one inverse_one, ones_of_byte b h)))
      (λ least. by_lt (inverse b) c
      (λ more. absurd (omega (arith, two_below b 256 (inverse b) c more fits inverse_one one, ones_of_byte b h)))
      (λ most. omega arith));
}
