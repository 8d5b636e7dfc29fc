-- The associated data for a purpose: it is no name's, and no other purpose or name has it.
use Rattle.std.proofs.Common.{◌≡◌, ℕ, ◌+◌, ◌/◌, ◌<◌, true, ltb, List, [], ◌∷◌, ◌++◌, All, IsUtf8, refl, sym, subst, arith, ⊎_elim}
use Rattle.std.proofs.lemmas.Bool.{and_parts, cond_both, ltb-true}
use Rattle.std.proofs.lemmas.List.Elements.{All-nil, All-cons, All-head, All-tail, All-append}
use lib.Utf8.{scalar, scalars, scalar_cases, encode, encodes, next}
use Rattle.cookie.specs.Purposes.{IsApart}

-- a byte below 255
abbrev IsLow : ℕ → Type 0
IsLow b = b < 255

-- each byte of a character is one
low_encoded : (c : ℕ) → scalar c ≡ true → All IsLow (encode c)
unfolding encode
low_encoded c is =
    let small : c < 1114112 = ⊎_elim (λ low. omega (arith, low)) (λ high. high.1) (scalar_cases c is) in
    let one : List ℕ = next c ∷ [] in
    let two : List ℕ = next (c / 64) ∷ one in
    let three : List ℕ = next (c / 4096) ∷ two in
    let last : All IsLow one = All-cons IsLow (next c) [] (omega arith) (All-nil IsLow) in
    let second : All IsLow two = All-cons IsLow (next (c / 64)) one (omega arith) last in
    let first : All IsLow three = All-cons IsLow (next (c / 4096)) two (omega arith) second in
    cond_both (ltb c 128) (c ∷ []) _ (All IsLow) (λ e. let h = ltb-true c 128 e in All-cons IsLow c [] (omega (arith, h)) (All-nil IsLow))
    (λ _. cond_both (ltb c 2048) ((192 + c / 64) ∷ one) _ (All IsLow) (λ e. let h = ltb-true c 2048 e in All-cons IsLow (192 + c / 64) one (omega (arith, h)) last)
    (λ _. cond_both (ltb c 65536) ((224 + c / 4096) ∷ two) ((240 + c / 262144) ∷ three) (All IsLow)
    (λ e. let h = ltb-true c 65536 e in All-cons IsLow (224 + c / 4096) two (omega (arith, h)) second)
    (λ _. All-cons IsLow (240 + c / 262144) three (omega (arith, small)) first)))

low_encodes : (cs : List ℕ) → scalars cs ≡ true → All IsLow (encodes cs)
low_encodes [] are = All-nil IsLow
low_encodes (c ∷ cs) are =
    let both = and_parts (scalar c) (scalars cs) are in
    All-append IsLow (encode c) (encodes cs) (low_encoded c both.0) (low_encodes cs both.1)

-- and each byte of a text
low_text : (text : List ℕ) → IsUtf8 text → All IsLow text
low_text text is = subst (All IsLow) is.1.1 (low_encodes is.0 is.1.0)

-- a text is what stands before the first byte 255
same_fronts : (p q n m : List ℕ) → All IsLow p → All IsLow q → p ++ 255 ∷ n ≡ q ++ 255 ∷ m → (p ≡ q) × (n ≡ m)
same_fronts [] [] n m low also e = (refl, cc)
same_fronts [] (y ∷ ys) n m low also e =
    let first : 255 ≡ y = cc in
    let small : y < 255 = All-head IsLow y ys also in
    absurd (omega arith)
same_fronts (x ∷ xs) [] n m low also e =
    let first : x ≡ 255 = cc in
    let small : x < 255 = All-head IsLow x xs low in
    absurd (omega arith)
same_fronts (x ∷ xs) (y ∷ ys) n m low also e =
    let first : x ≡ y = cc in
    let rest : xs ++ 255 ∷ n ≡ ys ++ 255 ∷ m = cc in
    let both = same_fronts xs ys n m (All-tail IsLow x xs low) (All-tail IsLow y ys also) rest in
    ((λ i. first i ∷ both.0 i), both.1)

not_text : (rest other : List ℕ) → IsUtf8 other → ¬ (255 ∷ rest ≡ other)
not_text rest other is e =
    let low : All IsLow (255 ∷ rest) = subst (All IsLow) (sym e) (low_text other is) in
    let small : 255 < 255 = All-head IsLow 255 rest low in
    absurd (omega arith)

-- texts have data of their own
pub apart : (purpose name : List ℕ) → IsUtf8 purpose → IsApart purpose name
apart purpose name is =
    record {
      from_names = not_text (purpose ++ 255 ∷ name);
      from_purposes = λ other_purpose other other_is _ same.
          let rest : purpose ++ 255 ∷ name ≡ other_purpose ++ 255 ∷ other = cc in
          same_fronts purpose other_purpose name other (low_text purpose is) (low_text other_purpose other_is) rest;
    }
