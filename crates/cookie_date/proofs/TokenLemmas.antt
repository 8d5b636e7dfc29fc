-- How the tokens of a date are cut off and read.
use Rattle.std.proofs.Common.{◌≡◌, ℕ, suc, ◌+◌, ◌<◌, ◌≤◌, Bool, true, false, cond, List, [], ◌∷◌, ◌++◌, length, get_or, take, drop, Option, Some, None, refl, sym, ap, ◌∙◌, subst, arith, All, take-append-drop}
use Rattle.std.proofs.lemmas.Bool.{cond-true, cond-false}
use Rattle.std.proofs.lemmas.List.{drop_more, get_or-take, length-take-le}
use Rattle.std.proofs.lemmas.List.Elements.{All-head, All-tail, All-from_get_or}
use Rattle.std.specs.List.{onto_first}
use Rattle.cookie_date.specs.CookieDate.{is_delimiter, date_tokens, is_month, month_from}
use Rattle.cookie_date.specs.Found.{cut_token, tokens_left}

-- the byte is no delimiter
abbrev IsPlain : ℕ → Type 0
IsPlain b = is_delimiter b ≡ false

cut-at : (xs ys : List ℕ) (d : ℕ) → All IsPlain xs → is_delimiter d ≡ true → cut_token (xs ++ d ∷ ys) ≡ (xs, Some ys)
cut-at [] ys d plain is = cond-true _ _ _ is
cut-at (x ∷ xs) ys d plain is =
    cond-false _ _ _ (All-head IsPlain x xs plain) ∙ ap (λ r. (x ∷ r.0, r.1)) (cut-at xs ys d (All-tail IsPlain x xs plain) is)

cut-none : (xs : List ℕ) → All IsPlain xs → cut_token xs ≡ (xs, None)
cut-none [] plain = refl
cut-none (x ∷ xs) plain =
    cond-false _ _ _ (All-head IsPlain x xs plain) ∙ ap (λ r. (x ∷ r.0, r.1)) (cut-none xs (All-tail IsPlain x xs plain))

plain_below : (xs : List ℕ) (i : ℕ) → i ≤ length xs → ((k : ℕ) → k < i → is_delimiter (get_or xs k 0) ≡ false) → All IsPlain (take i xs)
plain_below xs i within reads =
    All-from_get_or IsPlain (take i xs) 0 (λ k inside. let below : k < i = omega (arith, length-take-le i xs within) in subst IsPlain (sym (get_or-take i xs k 0 below)) (reads k below))

pub cut-at_first : (xs : List ℕ) (i : ℕ) → i < length xs → is_delimiter (get_or xs i 0) ≡ true → ((k : ℕ) → k < i → is_delimiter (get_or xs k 0) ≡ false) → cut_token xs ≡ (take i xs, Some (drop (i + 1) xs))
cut-at_first xs i inside here before =
    ap cut_token (sym (take-append-drop i xs) ∙ ap (λ l. take i xs ++ l) (drop_more xs i 0 inside))
    ∙ cut-at (take i xs) (drop (i + 1) xs) (get_or xs i 0) (plain_below xs i (omega arith) before) here

pub cut-nowhere : (xs : List ℕ) → ((k : ℕ) → k < length xs → is_delimiter (get_or xs k 0) ≡ false) → cut_token xs ≡ (xs, None)
cut-nowhere xs none = cut-none xs (All-from_get_or IsPlain xs 0 none)

-- the first token, and those of what stands after it
pub tokens-cut : (xs : List ℕ) → date_tokens xs ≡ (cut_token xs).0 ∷ tokens_left (cut_token xs).1
tokens-cut [] = refl
tokens-cut (x ∷ xs) = by (is_delimiter x) (tokens-cut xs)
  where
    by : (b : Bool) → date_tokens xs ≡ (cut_token xs).0 ∷ tokens_left (cut_token xs).1
        → cond b ([] ∷ date_tokens xs) (onto_first x (date_tokens xs)) ≡ (cond {A = List ℕ × Option (List ℕ)} b ([], Some xs) (x ∷ (cut_token xs).0, (cut_token xs).1)).0 ∷ tokens_left (cond {A = List ℕ × Option (List ℕ)} b ([], Some xs) (x ∷ (cut_token xs).0, (cut_token xs).1)).1
    by true e = refl
    by false e = ap (onto_first x) e

-- what is left is shorter
abbrev pub left_length : Option (List ℕ) → ℕ
left_length None = 0
left_length (Some t) = suc (length t)

pub cut-shorter : (xs : List ℕ) → left_length (cut_token xs).1 ≤ length xs
cut-shorter [] = omega arith
cut-shorter (x ∷ xs) = by (is_delimiter x) (cut-shorter xs)
  where
    by : (b : Bool) → left_length (cut_token xs).1 ≤ length xs → left_length (cond {A = List ℕ × Option (List ℕ)} b ([], Some xs) (x ∷ (cut_token xs).0, (cut_token xs).1)).1 ≤ suc (length xs)
    by true h = omega arith
    by false h = omega arith

-- ---- the names of months

pub month-found : (left less n : ℕ) (token : List ℕ) → left ≡ suc less → is_month n token ≡ true → month_from left n token ≡ Some n
unfolding month_from
month-found left less n token e is = rw (e, is) refl

pub month-missed : (left less n : ℕ) (token : List ℕ) → left ≡ suc less → is_month n token ≡ false → month_from left n token ≡ month_from less (n + 1) token
unfolding month_from
month-missed left less n token e is = rw (e, is) refl
