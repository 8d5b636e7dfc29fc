-- Bytes as elements of the field over a smaller one.
use Rattle.std.proofs.Common.{◌≡◌, ℕ, ◌+◌, ◌-◌, ◌*◌, ◌/◌, ◌%◌, ◌<◌, ◌≤◌, List, [], ◌∷◌, map, length, get_or, slice_index, replicate, take, drop, length-take, length-drop, get_or-take, get_or-drop, ltb, refl, sym, ap, subst, ◌∙◌, arith, bit_xor, w8, Fits}
use Rattle.std.specs.Int.Bits.{xor_assoc, xor_comm, xor_self, xor_zero_r}
use Rattle.std.specs.List.{range_with_len}
use Rattle.std.specs.Simd.Lanes.{Each1, chunk, zip2}
use Rattle.std.proofs.lemmas.Bool.{cond-true, cond-false, lt-ltb}
use Rattle.std.proofs.lemmas.Bool.Decides.{nat_tests}
use Rattle.std.proofs.lemmas.List.{length-map, get_or-map}
use Rattle.std.proofs.lemmas.List.FromFn.{fill_by_all, get_or-map-range_with_len}
use Rattle.std.proofs.lemmas.Simd.{map-map, zip2_splat, get_or-zip2, get_or-chunk, length-chunk, length-zip2}
use Rattle.cookie_crypt.specs.Aes.{cell, sub_bytes, shift_rows, mix_columns, mixed_cell, add_round_key, word}
use Rattle.cookie_crypt.specs.ByteField.{byte_times_x}
use Rattle.cookie_crypt.specs.Bytes.{IsBytes}
use Rattle.cookie_crypt.specs.Lanes.{IsLanes}
use Rattle.cookie_crypt.specs.Sbox.{s_box}
use Rattle.cookie_crypt.specs.Turned.{key_byte, linear_part, schedule_of, turned_back}
use Rattle.cookie_crypt.proofs.BytesLemmas.{bytes_shifted, bytes_substituted, xor_byte}
use Rattle.cookie_crypt.proofs.LaneLemmas.{by_place, lanes_are_bytes, on_places}
use Rattle.cookie_crypt.proofs.MixingLemmas.{mixed, mixed_at, on_pairs}
use Rattle.cookie_crypt.proofs.ProductLemmas.{xor_swap}

-- ---- a byte

-- two functions that agree on bytes
pub on_fitting : (f g : ℕ → ℕ) → ((b : ℕ) → b < 256 → f b ≡ g b) → (v : List ℕ) → Each1 (Fits w8) v → map f v ≡ map g v
on_fitting f g same [] h = refl
on_fitting f g same (x ∷ v) h = ap (λ l. f x ∷ l) (on_fitting f g same v h.1) ∙ ap (λ y. y ∷ map g v) (same x h.0.fits)

pub turned_back-xor : (x y : ℕ) → x < 256 → y < 256 → turned_back (bit_xor x y) ≡ bit_xor (turned_back x) (turned_back y)
unfolding turned_back
turned_back-xor = on_pairs (λ x y. turned_back (bit_xor x y)) (λ x y. bit_xor (turned_back x) (turned_back y)) refl

-- the constant added twice is gone
pub xor_twice : (a k : ℕ) → bit_xor (bit_xor a k) k ≡ a
xor_twice a k = xor_assoc a k k ∙ ap (bit_xor a) (xor_self k) ∙ xor_zero_r a

-- ---- a column

own_and_next : (a b : ℕ) → a < 256 → b < 256
    → bit_xor (bit_xor (byte_times_x (bit_xor a 0x63)) (bit_xor b 0x63)) (byte_times_x (bit_xor b 0x63)) ≡ bit_xor (bit_xor (byte_times_x (bit_xor a b)) b) 0x63
unfolding byte_times_x
own_and_next =
    on_pairs (λ a b. bit_xor (bit_xor (byte_times_x (bit_xor a 0x63)) (bit_xor b 0x63)) (byte_times_x (bit_xor b 0x63)))
    (λ a b. bit_xor (bit_xor (byte_times_x (bit_xor a b)) b) 0x63) refl

-- two constants are none
constants : (a b k : ℕ) → bit_xor (bit_xor a k) (bit_xor b k) ≡ bit_xor a b
constants a b k = xor_swap a k b k ∙ ap (bit_xor (bit_xor a b)) (xor_self k) ∙ xor_zero_r (bit_xor a b)

-- a column's byte, with one constant left of six
pub column_byte : (a b c d : ℕ) → a < 256 → b < 256
    → bit_xor (bit_xor (bit_xor (byte_times_x (bit_xor a 0x63)) (bit_xor b 0x63)) (bit_xor d 0x63)) (bit_xor (byte_times_x (bit_xor b 0x63)) (bit_xor c 0x63)) ≡ bit_xor (mixed a b c d) 0x63
unfolding mixed
column_byte a b c d p q =
    let own : ℕ = bit_xor (byte_times_x (bit_xor a 0x63)) (bit_xor b 0x63) in
    let next : ℕ = byte_times_x (bit_xor b 0x63) in
    let near : ℕ = bit_xor (byte_times_x (bit_xor a b)) b in
    xor_swap own (bit_xor d 0x63) next (bit_xor c 0x63)
    ∙ ap (λ x. bit_xor x (bit_xor (bit_xor d 0x63) (bit_xor c 0x63))) (own_and_next a b p q)
    ∙ ap (bit_xor (bit_xor near 0x63)) (constants d c 0x63 ∙ xor_comm d c)
    ∙ xor_assoc near 0x63 (bit_xor c d) ∙ ap (bit_xor near) (xor_comm 0x63 (bit_xor c d)) ∙ sym (xor_assoc near (bit_xor c d) 0x63)

-- ---- a state

-- rows shift alike, whatever is done to each byte
pub shift_rows-map : (f : ℕ → ℕ) (s : List ℕ) → length s ≡ 16 → shift_rows (map f s) ≡ map f (shift_rows s)
unfolding shift_rows
shift_rows-map f s long = subst (λ t. shift_rows (map f t) ≡ map f (shift_rows t)) (sym (by_place s long)) refl

pub sub_bytes-map : (s : List ℕ) → length s ≡ 16 → sub_bytes s ≡ map s_box s
unfolding sub_bytes
sub_bytes-map s long = subst (λ t. sub_bytes t ≡ map s_box t) (sym (by_place s long)) refl

-- a place of a list that was made by place
at_place : (f : ℕ → ℕ) (s : List ℕ) (i : ℕ) → i < length s → get_or (map f s) i 0 ≡ f (get_or s i 0)
at_place f s i h = get_or-map f s i 0 0 h

-- ---- the key's words

-- the byte of a round's words at a place
key_at : (w : List ℕ) (k i : ℕ) → i < 16 → slice_index (word w (4 * k + i / 4)) (i % 4) ≡ get_or w (16 * k + i) 0
key_at w k i h =
    let place : 4 * (4 * k + i / 4) + i % 4 ≡ 16 * k + i = omega arith in
    get_or-map-range_with_len (λ j. get_or w (4 * (4 * k + i / 4) + j) 0) 0 4 (i % 4) (i % 4) 0 (omega arith) (omega arith) ∙ ap (λ j. get_or w j 0) place

cell_at : (s : List ℕ) (i : ℕ) → cell s (i % 4) (i / 4) ≡ get_or s i 0
cell_at s i =
    let place : 4 * (i / 4) + i % 4 ≡ i = omega arith in
    ap (λ j. get_or s j 0) place

-- a round's words added, by place
added_at : (w s : List ℕ) (k i : ℕ) → i < 16 → bit_xor (cell s (i % 4) (i / 4)) (slice_index (word w (4 * k + i / 4)) (i % 4)) ≡ bit_xor (get_or s i 0) (get_or w (16 * k + i) 0)
added_at w s k i h = ap (λ x. bit_xor x (slice_index (word w (4 * k + i / 4)) (i % 4))) (cell_at s i) ∙ ap (bit_xor (get_or s i 0)) (key_at w k i h)

-- what a prepared byte stands for, by its place
first_key : (w : List ℕ) (p : ℕ) → p < 16 → get_or (schedule_of w) p 0 ≡ turned_back (get_or w p 0)
unfolding schedule_of
first_key w p h =
    get_or-map-range_with_len (λ place. key_byte place (get_or w place 0)) 0 240 p p 0 (omega arith) (omega arith)
    ∙ cond-true (ltb p 16) _ _ (lt-ltb p 16 h)

later_key : (w : List ℕ) (p : ℕ) → 16 ≤ p → p < 224 → get_or (schedule_of w) p 0 ≡ bit_xor (turned_back (get_or w p 0)) 0x63
unfolding schedule_of
later_key w p low high =
    get_or-map-range_with_len (λ place. key_byte place (get_or w place 0)) 0 240 p p 0 (omega arith) (omega arith)
    ∙ cond-false (ltb p 16) _ _ (grind (arith, nat_tests)) ∙ cond-true (ltb p 224) _ _ (lt-ltb p 224 high)

last_key : (w : List ℕ) (p : ℕ) → 224 ≤ p → p < 240 → get_or (schedule_of w) p 0 ≡ bit_xor (get_or w p 0) 0x63
unfolding schedule_of
last_key w p low high =
    get_or-map-range_with_len (λ place. key_byte place (get_or w place 0)) 0 240 p p 0 (omega arith) (omega arith)
    ∙ cond-false (ltb p 16) _ _ (grind (arith, nat_tests)) ∙ cond-false (ltb p 224) _ _ (grind (arith, nat_tests))

-- sixteen bytes of the words, from a round's first on
pub key_chunk : (w : List ℕ) (k m j : ℕ) → k ≤ 14 → m ≡ 240 - 16 * k → length w ≡ 240 → j < 16 → get_or (chunk 0 16 (take m (drop (16 * k) w))) j 0 ≡ get_or w (16 * k + j) 0
key_chunk w k m j low e long h =
    let part : List ℕ = take m (drop (16 * k) w) in
    let start : 0 + j ≡ j = omega arith in
    get_or-chunk 0 16 part j 0 h ∙ ap (λ i. get_or part i 0) start ∙ get_or-take m (drop (16 * k) w) j 0 (omega arith) ∙ get_or-drop (16 * k) w j 0

pub length-key_chunk : (w : List ℕ) (k m : ℕ) → k ≤ 14 → m ≡ 240 - 16 * k → length w ≡ 240 → length (chunk 0 16 (take m (drop (16 * k) w))) ≡ 16
length-key_chunk w k m low e long =
    let there : length (take m (drop (16 * k) w)) ≡ m = omega (arith, length-take m (drop (16 * k) w), length-drop (16 * k) w) in
    length-chunk 0 16 (take m (drop (16 * k) w)) (omega arith)

-- a round's words added to a state, sixteen bytes at once
pub added_lanes : (w s ys : List ℕ) (k : ℕ) → length s ≡ 16 → length ys ≡ 16 → ((j : ℕ) → j < 16 → get_or ys j 0 ≡ get_or w (16 * k + j) 0) → zip2 bit_xor s ys ≡ add_round_key w k s
unfolding add_round_key
added_lanes w s ys k long all each =
    fill_by_all (λ i. bit_xor (cell s (i % 4) (i / 4)) (slice_index (word w (4 * k + i / 4)) (i % 4))) (zip2 bit_xor s ys) 16 0 (length-zip2 bit_xor s ys (long ∙ sym all) ∙ long) (λ i h.
    get_or-zip2 bit_xor s ys i 0 0 0 (omega arith) (omega arith) ∙ ap (bit_xor (get_or s i 0)) (each i h) ∙ sym (added_at w s k i h))

-- the constant added to sixteen bytes
with_constant : (part : List ℕ) (j : ℕ) → length part ≡ 16 → j < 16 → get_or (zip2 bit_xor part (replicate 16 0x63)) j 0 ≡ bit_xor (get_or part j 0) 0x63
with_constant part j long h = ap (λ l. get_or l j 0) (zip2_splat bit_xor part 16 0x63 long) ∙ at_place (λ x. bit_xor x 0x63) part j (omega (arith, long))

-- what prepared bytes stand for
pub prepared_first : (part r : List ℕ) (p j v : ℕ) → j < 16 → length part ≡ 16 → map turned_back r ≡ part → get_or part j 0 ≡ v → p < 16 → key_byte p (get_or r j 0) ≡ v
prepared_first part r p j v h all is at low =
    let long : length r ≡ 16 = sym (length-map r turned_back) ∙ ap length is ∙ all in
    cond-true (ltb p 16) _ _ (lt-ltb p 16 low) ∙ sym (at_place turned_back r j (omega (arith, long))) ∙ ap (λ l. get_or l j 0) is ∙ at

pub prepared_later : (part r : List ℕ) (p j v : ℕ) → j < 16 → length part ≡ 16 → map turned_back r ≡ zip2 bit_xor part (replicate 16 0x63) → get_or part j 0 ≡ v
    → 16 ≤ p → p < 224 → key_byte p (get_or r j 0) ≡ v
prepared_later part r p j v h all is at low high =
    let sum : length (zip2 bit_xor part (replicate 16 0x63)) ≡ 16 = length-zip2 bit_xor part (replicate 16 0x63) all ∙ all in
    let long : length r ≡ 16 = sym (length-map r turned_back) ∙ ap length is ∙ sum in
    cond-false (ltb p 16) _ _ (grind (arith, nat_tests)) ∙ cond-true (ltb p 224) _ _ (lt-ltb p 224 high)
    ∙ ap (λ x. bit_xor x 0x63) (sym (at_place turned_back r j (omega (arith, long))) ∙ ap (λ l. get_or l j 0) is ∙ with_constant part j all h)
    ∙ xor_twice (get_or part j 0) 0x63 ∙ at

pub prepared_last : (part r : List ℕ) (p j v : ℕ) → j < 16 → length part ≡ 16 → r ≡ zip2 bit_xor part (replicate 16 0x63) → get_or part j 0 ≡ v → 224 ≤ p → key_byte p (get_or r j 0) ≡ v
prepared_last part r p j v h all is at low =
    cond-false (ltb p 16) _ _ (grind (arith, nat_tests)) ∙ cond-false (ltb p 224) _ _ (grind (arith, nat_tests))
    ∙ ap (λ x. bit_xor x 0x63) (ap (λ l. get_or l j 0) is ∙ with_constant part j all h)
    ∙ xor_twice (get_or part j 0) 0x63 ∙ at

pub prepared_all : (w xs : List ℕ) → length w ≡ 240 → ((p : ℕ) → p < 240 → key_byte p (get_or xs p 0) ≡ get_or w p 0) → schedule_of xs ≡ w
unfolding schedule_of
prepared_all w xs long each = sym (fill_by_all (λ p. key_byte p (get_or xs p 0)) w 240 0 long (λ p h. sym (each p h)))

-- the first round's words, added to a turned state
pub first_added : (w s : List ℕ) → IsBytes w → Each1 (Fits w8) s → length s ≡ 16
    → map turned_back (add_round_key w 0 s) ≡ add_round_key (schedule_of w) 0 (map turned_back s)
unfolding add_round_key
first_added w s wide narrow long =
    map-map turned_back (λ i. bit_xor (cell s (i % 4) (i / 4)) (slice_index (word w (4 * 0 + i / 4)) (i % 4))) (range_with_len 0 16)
    ∙ on_places (λ i. turned_back (bit_xor (cell s (i % 4) (i / 4)) (slice_index (word w (4 * 0 + i / 4)) (i % 4))))
    (λ i. bit_xor (cell (map turned_back s) (i % 4) (i / 4)) (slice_index (word (schedule_of w) (4 * 0 + i / 4)) (i % 4))) (λ i h.
    ap turned_back (added_at w s 0 i h)
    ∙ turned_back-xor (get_or s i 0) (get_or w (16 * 0 + i) 0) (lanes_are_bytes s narrow i) (wide (16 * 0 + i))
    ∙ ap (λ x. bit_xor x (turned_back (get_or w (16 * 0 + i) 0))) (sym (at_place turned_back s i (omega (arith, long))))
    ∙ ap (bit_xor (get_or (map turned_back s) i 0)) (sym (first_key w (16 * 0 + i) (omega arith)))
    ∙ sym (added_at (schedule_of w) (map turned_back s) 0 i h))

-- a later round's, where the state has the constant of S, and the prepared words have it
pub later_added : (w s mixed : List ℕ) (k : ℕ) → 1 ≤ k → k ≤ 13 → IsBytes w → Each1 (Fits w8) s → length s ≡ 16 → length mixed ≡ 16
    → map turned_back s ≡ map (λ b. bit_xor b 0x63) mixed
    → map turned_back (add_round_key w k s) ≡ add_round_key (schedule_of w) k mixed
unfolding add_round_key
later_added w s mixed k low high wide narrow long all is =
    map-map turned_back (λ i. bit_xor (cell s (i % 4) (i / 4)) (slice_index (word w (4 * k + i / 4)) (i % 4))) (range_with_len 0 16)
    ∙ on_places (λ i. turned_back (bit_xor (cell s (i % 4) (i / 4)) (slice_index (word w (4 * k + i / 4)) (i % 4))))
    (λ i. bit_xor (cell mixed (i % 4) (i / 4)) (slice_index (word (schedule_of w) (4 * k + i / 4)) (i % 4))) (λ i h.
    ap turned_back (added_at w s k i h)
    ∙ turned_back-xor (get_or s i 0) (get_or w (16 * k + i) 0) (lanes_are_bytes s narrow i) (wide (16 * k + i))
    ∙ ap (λ x. bit_xor x (turned_back (get_or w (16 * k + i) 0)))
    (sym (at_place turned_back s i (omega (arith, long))) ∙ ap (λ l. get_or l i 0) is ∙ at_place (λ b. bit_xor b 0x63) mixed i (omega (arith, all)))
    ∙ xor_assoc (get_or mixed i 0) 0x63 (turned_back (get_or w (16 * k + i) 0))
    ∙ ap (bit_xor (get_or mixed i 0)) (xor_comm 0x63 (turned_back (get_or w (16 * k + i) 0)) ∙ sym (later_key w (16 * k + i) (omega arith) (omega arith)))
    ∙ sym (added_at (schedule_of w) mixed k i h))

-- the last round's, where the state isn't turned
pub last_added : (w s shifted : List ℕ) → length s ≡ 16 → length shifted ≡ 16 → s ≡ map (λ b. bit_xor b 0x63) shifted
    → add_round_key w 14 s ≡ add_round_key (schedule_of w) 14 shifted
unfolding add_round_key
last_added w s shifted long all is =
    on_places (λ i. bit_xor (cell s (i % 4) (i / 4)) (slice_index (word w (4 * 14 + i / 4)) (i % 4)))
    (λ i. bit_xor (cell shifted (i % 4) (i / 4)) (slice_index (word (schedule_of w) (4 * 14 + i / 4)) (i % 4))) (λ i h.
    added_at w s 14 i h
    ∙ ap (λ x. bit_xor x (get_or w (16 * 14 + i) 0)) (ap (λ l. get_or l i 0) is ∙ at_place (λ b. bit_xor b 0x63) shifted i (omega (arith, all)))
    ∙ xor_assoc (get_or shifted i 0) 0x63 (get_or w (16 * 14 + i) 0)
    ∙ ap (bit_xor (get_or shifted i 0)) (xor_comm 0x63 (get_or w (16 * 14 + i) 0) ∙ sym (last_key w (16 * 14 + i) (omega arith) (omega arith)))
    ∙ sym (added_at (schedule_of w) shifted 14 i h))

-- ---- a round

-- S and the shifted rows of a turned state, each byte with the constant
pub shifted_parts : (s : List ℕ) → length s ≡ 16 → map linear_part (map turned_back (shift_rows s)) ≡ map (λ b. bit_xor b 0x63) (shift_rows (sub_bytes (map turned_back s)))
shifted_parts s long =
    let back : List ℕ = map turned_back s in
    let whole : length back ≡ 16 = length-map s turned_back ∙ long in
    ap (map linear_part) (sym (shift_rows-map turned_back s long))
    ∙ sym (map-map (λ b. bit_xor b 0x63) s_box (shift_rows back))
    ∙ ap (map (λ b. bit_xor b 0x63)) (sym (shift_rows-map s_box back whole) ∙ ap shift_rows (sym (sub_bytes-map back whole)))

length-shifted : (s : List ℕ) → length (shift_rows s) ≡ 16
unfolding shift_rows
length-shifted s = refl

pub shifted_lanes : (s : List ℕ) → IsLanes (shift_rows (sub_bytes s))
shifted_lanes s = (length-shifted (sub_bytes s), bytes_shifted (sub_bytes s) (bytes_substituted s))

pub length-mixed : (s : List ℕ) → length (mix_columns s) ≡ 16
unfolding mix_columns
length-mixed s = refl

mixed_of : (a b c d : ℕ) → mixed a b c d ≡ bit_xor (bit_xor (byte_times_x (bit_xor a b)) b) (bit_xor c d)
unfolding mixed
mixed_of a b c d = refl

-- the places of a turned column that stand for the mixed one, with the constant
pub mixed_back : (once twice state : List ℕ) → length once ≡ 16 → length twice ≡ 16 → Each1 (Fits w8) once → Each1 (Fits w8) twice → IsLanes state
    → map turned_back once ≡ map (λ b. bit_xor b 0x63) state → map turned_back twice ≡ map (λ b. byte_times_x (bit_xor b 0x63)) state → (i : ℕ) → i < 16
    → turned_back (bit_xor (bit_xor (bit_xor (get_or twice i 0) (get_or once (4 * (i / 4) + (i + 1) % 4) 0)) (get_or once (4 * (i / 4) + (i + 3) % 4) 0)) (bit_xor (get_or twice (4 * (i / 4) + (i + 1) % 4) 0) (get_or once (4 * ((4 * (i / 4) + (i + 1) % 4) / 4) + (4 * (i / 4) + (i + 1) % 4 + 1) % 4) 0))) ≡ bit_xor (mixed_cell state (i % 4) (i / 4)) 0x63
mixed_back once twice state long long' fits fits' lanes is is' i h =
    let n : ℕ = 4 * (i / 4) + (i + 1) % 4 in
    let p : ℕ = 4 * (i / 4) + (i + 3) % 4 in
    let m : ℕ = 4 * (n / 4) + (n + 1) % 4 in
    let on = λ (j : ℕ). get_or once j 0 in
    let tw = λ (j : ℕ). get_or twice j 0 in
    let st = λ (j : ℕ). get_or state j 0 in
    let b = λ (j : ℕ). lanes_are_bytes once fits j in
    let b' = λ (j : ℕ). lanes_are_bytes twice fits' j in
    let one = λ (j : ℕ) (k : j < 16). sym (at_place turned_back once j (omega (arith, long))) ∙ ap (λ l. get_or l j 0) is ∙ at_place (λ b. bit_xor b 0x63) state j (omega (arith, lanes.0)) in
    let two = λ (j : ℕ) (k : j < 16). sym (at_place turned_back twice j (omega (arith, long'))) ∙ ap (λ l. get_or l j 0) is' ∙ at_place (λ b. byte_times_x (bit_xor b 0x63)) state j (omega (arith, lanes.0)) in
    let third : 4 * (i / 4) + (i + 2) % 4 ≡ m = omega arith in
    let fourth : 4 * ((4 * (i / 4) + (i + 2) % 4) / 4) + ((4 * (i / 4) + (i + 2) % 4) + 1) % 4 ≡ p = omega arith in
    turned_back-xor (bit_xor (bit_xor (tw i) (on n)) (on p)) (bit_xor (tw n) (on m)) (xor_byte _ _ (xor_byte _ _ (b' i) (b n)) (b p)) (xor_byte _ _ (b' n) (b m))
    ∙ ap (λ x. bit_xor x (turned_back (bit_xor (tw n) (on m))))
    (turned_back-xor (bit_xor (tw i) (on n)) (on p) (xor_byte _ _ (b' i) (b n)) (b p) ∙ ap (λ x. bit_xor x (turned_back (on p))) (turned_back-xor (tw i) (on n) (b' i) (b n)))
    ∙ ap (bit_xor (bit_xor (bit_xor (turned_back (tw i)) (turned_back (on n))) (turned_back (on p)))) (turned_back-xor (tw n) (on m) (b' n) (b m))
    ∙ ap (λ x. bit_xor (bit_xor (bit_xor x (turned_back (on n))) (turned_back (on p))) (bit_xor (turned_back (tw n)) (turned_back (on m)))) (two i h)
    ∙ ap (λ x. bit_xor (bit_xor (bit_xor (byte_times_x (bit_xor (st i) 0x63)) x) (turned_back (on p))) (bit_xor (turned_back (tw n)) (turned_back (on m)))) (one n (omega arith))
    ∙ ap (λ x. bit_xor (bit_xor (bit_xor (byte_times_x (bit_xor (st i) 0x63)) (bit_xor (st n) 0x63)) x) (bit_xor (turned_back (tw n)) (turned_back (on m)))) (one p (omega arith))
    ∙ ap (λ x. bit_xor (bit_xor (bit_xor (byte_times_x (bit_xor (st i) 0x63)) (bit_xor (st n) 0x63)) (bit_xor (st p) 0x63)) (bit_xor x (turned_back (on m)))) (two n (omega arith))
    ∙ ap (λ x. bit_xor (bit_xor (bit_xor (byte_times_x (bit_xor (st i) 0x63)) (bit_xor (st n) 0x63)) (bit_xor (st p) 0x63)) (bit_xor (byte_times_x (bit_xor (st n) 0x63)) x)) (one m (omega arith))
    ∙ column_byte (st i) (st n) (st m) (st p) (lanes.1 i) (lanes.1 n)
    ∙ ap (λ x. bit_xor x 0x63) (mixed_of (st i) (st n) (st m) (st p)
    ∙ ap (λ j. bit_xor (bit_xor (byte_times_x (bit_xor (st i) (st n))) (st n)) (bit_xor (st j) (st p))) (sym third)
    ∙ ap (λ j. bit_xor (bit_xor (byte_times_x (bit_xor (st i) (st n))) (st n)) (bit_xor (st (4 * (i / 4) + (i + 2) % 4)) (st j))) (sym fourth)
    ∙ mixed_at state i h lanes.1)
