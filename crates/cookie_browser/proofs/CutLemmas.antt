-- Where a text is cut, by the place of the first mark.
use Rattle.std.proofs.Common.{◌≡◌, ◌≢◌, ℕ, suc, ◌+◌, ◌<◌, ◌≤◌, ◌==◌, Bool, true, false, cond, List, [], ◌∷◌, ◌++◌, length, get_or, take, drop, Option, Some, None, refl, sym, ap, ◌∙◌, arith, take-append-drop}
use Rattle.std.proofs.lemmas.List.{drop_more, get_or-take, length-take-le}
use Rattle.std.specs.List.{onto_first, slice_split}
use Rattle.cookie_core.specs.Pieces.{Lacks, pieces}
use Rattle.cookie_browser.specs.Bytes.{cut}
use Rattle.cookie_browser.specs.Received.{pieces_after}
use Rattle.cookie_browser.proofs.TrimLemmas.{cut-at, cut-none}

lacks_below : (c : ℕ) (xs : List ℕ) (i : ℕ) → i ≤ length xs → ((k : ℕ) → k < i → get_or xs k 0 ≢ c) → Lacks c (take i xs)
lacks_below c xs i within reads k inside e =
    let below : k < i = omega (arith, length-take-le i xs within) in
    reads k below (sym (get_or-take i xs k 0 below) ∙ e)

pub cut-at_first : (c : ℕ) (xs : List ℕ) (i : ℕ) → i < length xs → get_or xs i 0 ≡ c → ((k : ℕ) → k < i → get_or xs k 0 ≢ c) → cut c xs ≡ (take i xs, Some (drop (i + 1) xs))
cut-at_first c xs i inside here before =
    ap (cut c) (sym (take-append-drop i xs) ∙ ap (λ l. take i xs ++ l) (drop_more xs i 0 inside ∙ ap (λ b. b ∷ drop (i + 1) xs) here))
    ∙ cut-at c (take i xs) (drop (i + 1) xs) (lacks_below c xs i (omega arith) before)

pub cut-nowhere : (c : ℕ) (xs : List ℕ) → ((k : ℕ) → k < length xs → get_or xs k 0 ≢ c) → cut c xs ≡ (xs, None)
cut-nowhere c xs none = cut-none c xs none

-- the parts of the text between the marks, if there is a text
abbrev pub pieces_at : ℕ → Option (List ℕ) → List (List ℕ)
pieces_at mark None = []
pieces_at mark (Some text) = slice_split (λ byte. byte == mark) text

-- the first part, and the parts after it
pub slice_split-cut : (mark : ℕ) (xs : List ℕ) → slice_split (λ byte. byte == mark) xs ≡ (cut mark xs).0 ∷ pieces_at mark (cut mark xs).1
unfolding cut
slice_split-cut mark [] = refl
slice_split-cut mark (x ∷ xs) = by (x == mark) (slice_split-cut mark xs)
  where
    by : (b : Bool) → slice_split (λ byte. byte == mark) xs ≡ (cut mark xs).0 ∷ pieces_at mark (cut mark xs).1
        → cond b ([] ∷ slice_split (λ byte. byte == mark) xs) (onto_first x (slice_split (λ byte. byte == mark) xs)) ≡ (cond {A = List ℕ × Option (List ℕ)} b ([], Some xs) (x ∷ (cut mark xs).0, (cut mark xs).1)).0 ∷ pieces_at mark (cond {A = List ℕ × Option (List ℕ)} b ([], Some xs) (x ∷ (cut mark xs).0, (cut mark xs).1)).1
    by true e = refl
    by false e = ap (onto_first x) e

pub pieces-first : (xs : List ℕ) → pieces xs ≡ (cut 59 xs).0 ∷ pieces_after (cut 59 xs).1
pieces-first xs = slice_split-cut 59 xs ∙ ap (λ ps. (cut 59 xs).0 ∷ ps) (after (cut 59 xs).1)
  where
    after : (o : Option (List ℕ)) → pieces_at 59 o ≡ pieces_after o
    after None = refl
    after (Some t) = refl

-- what is left is shorter
abbrev pub left_length : Option (List ℕ) → ℕ
left_length None = 0
left_length (Some t) = suc (length t)

pub cut-shorter : (c : ℕ) (xs : List ℕ) → left_length (cut c xs).1 ≤ length xs
unfolding cut
cut-shorter c [] = omega arith
cut-shorter c (x ∷ xs) = by (x == c) (cut-shorter c xs)
  where
    by : (b : Bool) → left_length (cut c xs).1 ≤ length xs → left_length (cond {A = List ℕ × Option (List ℕ)} b ([], Some xs) (x ∷ (cut c xs).0, (cut c xs).1)).1 ≤ suc (length xs)
    by true h = omega arith
    by false h = omega arith

-- so each cut of what is left leaves less
pub rest-shorter : (c : ℕ) (xs : List ℕ) (rest after : Option (List ℕ)) → rest ≡ Some xs → after ≡ (cut c xs).1 → left_length after < left_length rest
rest-shorter c xs rest after is cut_is =
    let before = ap left_length is in
    let later = ap left_length cut_is in
    omega (arith, before, later, cut-shorter c xs)
