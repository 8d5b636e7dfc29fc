-- Sixteen bytes at a time.
use Rattle.std.proofs.Common.{◌≡◌, ℕ, zero, suc, ◌+◌, ◌*◌, ◌/◌, ◌%◌, ◌^◌, ◌<◌, ◌≤◌, List, [], ◌∷◌, map, length, get_or, replicate, Bool, true, T, cond, leb, bit_xor, refl, sym, ap, subst, ◌∙◌, arith, w8, Fits}
use Rattle.std.specs.List.{range_with_len}
use Rattle.std.specs.Simd.Lanes.{Each1, zip2, chunk, sel_l, top}
use Rattle.std.proofs.lemmas.List.{get_or-map, ext_get_or, length-map}
use Rattle.std.proofs.lemmas.List.FromFn.{get_or-map-range_with_len, fill_by_all}
use Rattle.std.proofs.lemmas.Simd.{Each1-weaker, SwzOk, swz_l, SwzOk-from_Each1, length-swz_l, get_or-swz_l, get_or-zip2, length-zip2, get_or-chunk, length-chunk}
use Rattle.cookie_crypt.specs.ByteField.{byte_times_x}
use Rattle.cookie_crypt.specs.Lanes.{entry, is_place, ArePlaces}
use Rattle.cookie_crypt.proofs.SboxLemmas.{on_bytes}

true_T : (b : Bool) → b ≡ true → T b
true_T b e = subst T (sym e) tt

pub places_ok : (js : List ℕ) → length js ≡ 16 → ArePlaces js → SwzOk w8 16 16 0 js
places_ok js long are =
    SwzOk-from_Each1 w8 16 1 16 0 js refl (omega (arith, long)) (Each1-weaker _ _ (λ j h. true_T _ h) js are)

-- a look-up in one table of sixteen places
pub looked_up : (t js : List ℕ) (f : ℕ → ℕ) (v : List ℕ) → length js ≡ 16 → js ≡ map f v → swz_l w8 16 t 0 js ≡ map (λ b. entry t (f b)) v
looked_up t js f v long e =
    ext_get_or 0 _ _ (length-swz_l w8 16 t 0 js ∙ ap length e ∙ length-map v f ∙ sym (length-map v (λ b. entry t (f b)))) (λ i h.
    let lt : i < 16 = omega (arith, length-swz_l w8 16 t 0 js) in
    let within : i < length v = omega (arith, long, ap length e, length-map v f) in
    let is : get_or js i 0 ≡ f (get_or v i 0) = ap (λ l. get_or l i 0) e ∙ get_or-map f v i 0 0 within in
    let base : 16 * ((0 + i) / 16) + get_or js i 0 ≡ get_or js i 0 = omega arith in
    get_or-swz_l w8 16 t 0 js i (omega (arith, long))
    ∙ ap (λ k. cond (leb 128 (get_or js i 0)) 0 (get_or t k 0)) base
    ∙ ap (entry t) is ∙ sym (get_or-map (λ b. entry t (f b)) v i 0 0 within))

bool_on : (p : ℕ → Bool) → map p (range_with_len 0 256) ≡ map (λ _. true) (range_with_len 0 256) → (b : ℕ) → b < 256 → p b ≡ true
bool_on p same b h =
    sym (get_or-map-range_with_len p 0 256 b b true h (omega arith)) ∙ ap (λ xs. get_or xs b true) same ∙ get_or-map-range_with_len (λ _. true) 0 256 b b true h (omega arith)

-- a test of all bytes, and so of all lanes
pub all_lanes : (p : ℕ → Bool) → map p (range_with_len 0 256) ≡ map (λ _. true) (range_with_len 0 256) → (v : List ℕ) → Each1 (Fits w8) v → Each1 (λ b. p b ≡ true) v
all_lanes p same v fits = Each1-weaker (Fits w8) (λ b. p b ≡ true) (λ b h. bool_on p same b h.fits) v fits

mapped : (f : ℕ → ℕ) (v : List ℕ) → Each1 (λ b. is_place (f b) ≡ true) v → ArePlaces (map f v)
mapped f [] h = h
mapped f (x ∷ v) h = (h.0, mapped f v h.1)

-- places that are computed from bytes
pub are_places : (f : ℕ → ℕ) → map (λ b. is_place (f b)) (range_with_len 0 256) ≡ map (λ _. true) (range_with_len 0 256)
    → (v js : List ℕ) → Each1 (Fits w8) v → js ≡ map f v → ArePlaces js
are_places f same v js fits e = subst ArePlaces (sym e) (mapped f v (all_lanes (λ b. is_place (f b)) same v fits))

pub as_it_is : (v : List ℕ) → v ≡ map (λ b. b) v
as_it_is [] = refl
as_it_is (x ∷ v) = ap (λ l. x ∷ l) (as_it_is v)

-- two functions that agree on all bytes agree on all lanes
pub on_lanes : (f g : ℕ → ℕ) → map f (range_with_len 0 256) ≡ map g (range_with_len 0 256) → (v : List ℕ) → Each1 (Fits w8) v → map f v ≡ map g v
on_lanes f g same [] h = refl
on_lanes f g same (x ∷ v) h = ap (λ l. f x ∷ l) (on_lanes f g same v h.1) ∙ ap (λ y. y ∷ map g v) (on_bytes f g same x h.0.fits)

-- the sixteen lanes, by place
pub by_place : (s : List ℕ) → length s ≡ 16 → s ≡ map (λ i. get_or s i 0) (range_with_len 0 16)
by_place s long = fill_by_all (λ i. get_or s i 0) s 16 0 long (λ k h. refl)

-- two functions that agree on the places
pub on_places : (f g : ℕ → ℕ) → ((i : ℕ) → i < 16 → f i ≡ g i) → map f (range_with_len 0 16) ≡ map g (range_with_len 0 16)
on_places f g same =
    fill_by_all g (map f (range_with_len 0 16)) 16 0 refl (λ k h. get_or-map-range_with_len f 0 16 k k 0 h (omega arith) ∙ same k h)

doubled_byte : (b : ℕ) → b < 256 → bit_xor ((b + b) % 2 ^ 8) (cond (top 7 (cond (leb 128 b) 255 0)) 27 0) ≡ byte_times_x b
unfolding byte_times_x
doubled_byte = on_bytes (λ b. bit_xor ((b + b) % 2 ^ 8) (cond (top 7 (cond (leb 128 b) 255 0)) 27 0)) byte_times_x refl

pub doubled_lanes : (a : List ℕ) (n : ℕ) → length a ≡ n → Each1 (Fits w8) a
    → zip2 bit_xor (zip2 (λ x y. (x + y) % 2 ^ 8) a a) (sel_l (map (top 7) (zip2 (λ x y. cond (leb x y) 255 0) (replicate n 128) a)) (replicate n 27) (replicate n 0)) ≡ map byte_times_x a
doubled_lanes [] n e fits = refl
doubled_lanes (x ∷ a) zero e fits = absurd (omega arith)
doubled_lanes (x ∷ a) (suc n) e fits =
    ap (λ l. bit_xor ((x + x) % 2 ^ 8) (cond (top 7 (cond (leb 128 x) 255 0)) 27 0) ∷ l) (doubled_lanes a n (omega arith) fits.1) ∙ ap (λ y. y ∷ map byte_times_x a) (doubled_byte x fits.0.fits)

pub lanes_are_bytes : (s : List ℕ) → Each1 (Fits w8) s → (i : ℕ) → get_or s i 0 < 256
lanes_are_bytes [] h i = omega arith
lanes_are_bytes (x ∷ s) h zero = h.0.fits
lanes_are_bytes (x ∷ s) h (suc i) = lanes_are_bytes s h.1 i

-- sixteen bytes of a list, from p on
pub loaded : (xs : List ℕ) (p : ℕ) → p + 16 ≤ length xs → chunk p 16 xs ≡ map (λ j. get_or xs (p + j) 0) (range_with_len 0 16)
loaded xs p h = fill_by_all (λ j. get_or xs (p + j) 0) (chunk p 16 xs) 16 0 (length-chunk p 16 xs h) (λ j k. get_or-chunk p 16 xs j 0 k)

-- a block added to sixteen bytes
pub length-sum : (xs ys : List ℕ) (p : ℕ) → p + 16 ≤ length xs → length ys ≡ 16 → length (zip2 bit_xor (chunk p 16 xs) ys) ≡ 16
length-sum xs ys p h long =
    let sixteen : length (chunk p 16 xs) ≡ 16 = length-chunk p 16 xs h in
    length-zip2 bit_xor (chunk p 16 xs) ys (sixteen ∙ sym long) ∙ sixteen

pub sum_at : (xs ys : List ℕ) (p j : ℕ) → p + 16 ≤ length xs → length ys ≡ 16 → j < 16
    → get_or (zip2 bit_xor (chunk p 16 xs) ys) j 0 ≡ bit_xor (get_or xs (p + j) 0) (get_or ys j 0)
sum_at xs ys p j h long k =
    let sixteen : length (chunk p 16 xs) ≡ 16 = length-chunk p 16 xs h in
    get_or-zip2 bit_xor (chunk p 16 xs) ys j 0 0 0 (omega arith) (omega arith)
    ∙ ap (λ x. bit_xor x (get_or ys j 0)) (get_or-chunk p 16 xs j 0 k)
