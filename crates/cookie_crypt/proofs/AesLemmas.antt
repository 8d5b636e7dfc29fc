-- The words of the key, one after the other, and the length of a block.
use Rattle.std.proofs.Common.{◌≡◌, ℕ, zero, suc, ◌+◌, ◌-◌, ◌*◌, ◌<◌, ◌≤◌, List, [], ◌∷◌, ◌++◌, length, get_or, take, set, ap, sym, ◌∙◌, arith}
use Rattle.std.proofs.lemmas.List.{get_or-take, length-take-le, ext_get_or, take_all, take-append-le, length-append}
use Rattle.cookie_crypt.specs.Aes.{word, word_sum, added_word, next_word, words, key_expansion}
use Rattle.cookie_crypt.proofs.Made.{take_four}

-- a word that stands in a beginning of the list
word-take : (w : List ℕ) (i m : ℕ) → m < i → word (take (4 * i) w) m ≡ word w m
word-take w i m h =
    let a = get_or-take (4 * i) w (4 * m + 0) 0 (omega arith) in
    let b = get_or-take (4 * i) w (4 * m + 1) 0 (omega arith) in
    let c = get_or-take (4 * i) w (4 * m + 2) 0 (omega arith) in
    let d = get_or-take (4 * i) w (4 * m + 3) 0 (omega arith) in
    cc (a, b, c, d)

-- one word more
pub words_more : (key w next : List ℕ) (i : ℕ) → 8 ≤ i → 4 * i + 4 ≤ length w
    → next ≡ word_sum (word w (i - 8)) (added_word (word w (i - 1)) i)
    → take (4 * i) w ≡ words key (i - 8)
    → take (4 * (i + 1)) (set (set (set (set w (4 * i) (get_or next 0 0)) (4 * i + 1) (get_or next 1 0)) (4 * i + 2) (get_or next 2 0)) (4 * i + 3) (get_or next 3 0)) ≡ words key (i + 1 - 8)
unfolding words next_word
words_more key w next i low fits made before =
    let more : 4 * (i + 1) ≡ 4 * i + 4 = omega arith in
    let place : i + 1 - 8 ≡ suc (i - 8) = omega arith in
    let this : 8 + (i - 8) ≡ i = omega arith in
    ap (λ m. take m (set (set (set (set w (4 * i) (get_or next 0 0)) (4 * i + 1) (get_or next 1 0)) (4 * i + 2) (get_or next 2 0)) (4 * i + 3) (get_or next 3 0))) more
    ∙ take_four w (4 * i) (get_or next 0 0) (get_or next 1 0) (get_or next 2 0) (get_or next 3 0) fits
    ∙ ap (λ x. take (4 * i) w ++ x) (
    ap (λ (n : List ℕ). get_or n 0 0 ∷ get_or n 1 0 ∷ get_or n 2 0 ∷ get_or n 3 0 ∷ []) made
    ∙ ap (λ x. word_sum x (added_word (word w (i - 1)) i)) (sym (word-take w i (i - 8) (omega arith)))
    ∙ ap (λ x. word_sum (word (take (4 * i) w) (i - 8)) (added_word x i)) (sym (word-take w i (i - 1) (omega arith))))
    ∙ ap (λ x. x ++ next_word x i) before
    ∙ ap (λ j. words key (i - 8) ++ next_word (words key (i - 8)) j) (sym this)
    ∙ ap (words key) (sym place)

-- a beginning that was copied
pub copied : (key w : List ℕ) → length key ≡ 32 → length w ≡ 240 → ((k : ℕ) → k < 32 → get_or w k 0 ≡ get_or key k 0) → take 32 w ≡ key
copied key w p q same =
    let there : length (take 32 w) ≡ 32 = length-take-le 32 w (omega arith) in
    ext_get_or 0 (take 32 w) key (there ∙ sym p) (λ k h. get_or-take 32 w k 0 (omega arith) ∙ same k (omega arith))

-- the key stands first
words_first : (key : List ℕ) (n : ℕ) → length key ≡ 32 → (32 ≤ length (words key n)) × (take 32 (words key n) ≡ key)
unfolding words
words_first key zero h = (omega arith, take_all 32 key (omega arith))
words_first key (suc n) h =
    let before = words_first key n h in (
      omega (arith, before.0, length-append (words key n) (next_word (words key n) (8 + n))),
      take-append-le 32 (words key n) (next_word (words key n) (8 + n)) before.0 ∙ before.1,
    )

pub key_first : (key : List ℕ) → length key ≡ 32 → take 32 (key_expansion key) ≡ key
unfolding key_expansion
key_first key h = (words_first key 52 h).1
