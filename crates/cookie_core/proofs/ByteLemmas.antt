-- Texts whose bytes pass a test.
use Rattle.std.proofs.Common.{◌≡◌, Bool, true, false, not, ◌==◌, ℕ, List, [], ◌∷◌, ◌++◌, refl, subst, zero, suc, arith, nat_lt}
use Rattle.std.specs.List.{list_all}
use Rattle.std.specs.Str.{IsAscii}
use Rattle.std.proofs.lemmas.Bool.{and_parts, false≢true}
use Rattle.std.proofs.lemmas.Bool.Decides.{nat_tests}
use Rattle.std.proofs.lemmas.List.Folds.{list_all-append}
use Rattle.cookie_core.specs.Pieces.{Lacks}
use Rattle.cookie_core.specs.Trim.{IsTrimmed}
use Rattle.cookie_core.proofs.ReadingLemmas.{Lacks-tail, Lacks-more}
use mathlib.Core.Logic.{◌≢◌}

-- the byte b is not c
abbrev pub is_other : ℕ → ℕ → Bool
is_other c b = not (b == c)

pub false_from_not : (x : Bool) → not x ≡ true → x ≡ false
false_from_not true e = absurd (false≢true e)
false_from_not false e = refl

pub all-append : (p : ℕ → Bool) (xs ys : List ℕ) → list_all p xs ≡ true → list_all p ys ≡ true → list_all p (xs ++ ys) ≡ true
all-append p xs ys h k = rw (list_all-append p xs ys, h, k) refl

pub all-weaker : (p q : ℕ → Bool) → ((b : ℕ) → p b ≡ true → q b ≡ true) → (xs : List ℕ) → list_all p xs ≡ true → list_all q xs ≡ true
all-weaker p q f [] h = refl
all-weaker p q f (x ∷ xs) h =
    let k = and_parts (p x) (list_all p xs) h in
    rw (f x k.0, all-weaker p q f xs k.1) refl

pub Lacks-nil : (c : ℕ) → Lacks c []
Lacks-nil c i lt = absurd (omega arith)

pub Lacks-append : (c : ℕ) (xs ys : List ℕ) → Lacks c xs → Lacks c ys → Lacks c (xs ++ ys)
Lacks-append c [] ys h k = k
Lacks-append c (x ∷ xs) ys h k =
    Lacks-more c x (xs ++ ys) (h 0 (omega arith)) (Lacks-append c xs ys (Lacks-tail c x xs h) k)

pub other_from_test : (c b : ℕ) → is_other c b ≡ true → b ≢ c
other_from_test c b h e = grind (arith, nat_tests)

pub Lacks-from_test : (c : ℕ) (t : List ℕ) → list_all (is_other c) t ≡ true → Lacks c t
Lacks-from_test c [] h = Lacks-nil c
Lacks-from_test c (b ∷ t) h =
    let k = and_parts (is_other c b) (list_all (is_other c) t) h in
    Lacks-more c b t (other_from_test c b k.0) (Lacks-from_test c t k.1)

abbrev pub is_low : ℕ → Bool
is_low b = nat_lt b 128

pub IsAscii-from_test : (t : List ℕ) → list_all is_low t ≡ true → IsAscii t
IsAscii-from_test [] h i = omega arith
IsAscii-from_test (b ∷ t) h zero = let k = and_parts (is_low b) (list_all is_low t) h in grind (arith, nat_tests)
IsAscii-from_test (b ∷ t) h (suc i) = IsAscii-from_test t (and_parts (is_low b) (list_all is_low t) h).1 i

-- ---- a text within another

Lacks-right : (c : ℕ) (xs ys : List ℕ) → Lacks c (xs ++ ys) → Lacks c ys
Lacks-right c [] ys h = h
Lacks-right c (x ∷ xs) ys h = Lacks-right c xs ys (Lacks-tail c x (xs ++ ys) h)

Lacks-left : (c : ℕ) (xs ys : List ℕ) → Lacks c (xs ++ ys) → Lacks c xs
Lacks-left c [] ys h = Lacks-nil c
Lacks-left c (x ∷ xs) ys h =
    Lacks-more c x xs (h 0 (omega arith)) (Lacks-left c xs ys (Lacks-tail c x (xs ++ ys) h))

pub Lacks-trimmed : (c : ℕ) (text part : List ℕ) → IsTrimmed text part → Lacks c text → Lacks c part
Lacks-trimmed c text part t h =
    Lacks-left c part t.after (Lacks-right c t.before (part ++ t.after) (subst (Lacks c) t.whole h))
