-- Tests over lists.
use Rattle.std.proofs.Common.{◌≡◌, ◌||◌, Bool, true, false, List, [], ◌∷◌, map, Option, Some, None, refl, ap, ◌∙◌}
use Rattle.std.specs.List.{cons_option, list_any}

pub any-map : {X Y : Type 0} (p : Y → Bool) (f : X → Y) (xs : List X) → list_any p (map f xs) ≡ list_any (λ x. p (f x)) xs
any-map p f [] = refl
any-map p f (x ∷ xs) = ap (λ b. p (f x) || b) (any-map p f xs)

pub any-never : {X : Type 0} (xs : List X) → list_any (λ x. false) xs ≡ false
any-never [] = refl
any-never (x ∷ xs) = any-never xs

pub any-same : {X : Type 0} (p q : X → Bool) → ((x : X) → p x ≡ q x) → (xs : List X) → list_any p xs ≡ list_any q xs
any-same p q same [] = refl
any-same p q same (x ∷ xs) = ap (λ b. b || list_any p xs) (same x) ∙ ap (λ b. q x || b) (any-same p q same xs)

or_or : (a b c d : Bool) → ((a || b) || (c || d)) ≡ ((a || c) || (b || d))
or_or true b c d = refl
or_or false true true d = refl
or_or false true false d = refl
or_or false false c d = refl

-- a test of two parts
pub any-or : {X : Type 0} (p q : X → Bool) (xs : List X) → list_any (λ x. p x || q x) xs ≡ (list_any p xs || list_any q xs)
any-or p q [] = refl
any-or p q (x ∷ xs) = ap (λ b. (p x || q x) || b) (any-or p q xs) ∙ or_or (p x) (q x) (list_any p xs) (list_any q xs)

-- the test holds for the value, if there is one
abbrev pub holds_in : {X : Type 0} → (X → Bool) → Option X → Bool
holds_in test None = false
holds_in test (Some x) = test x

pub any-cons_option : {X : Type 0} (test : X → Bool) (o : Option X) (xs : List X) → list_any test (cons_option o xs) ≡ (holds_in test o || list_any test xs)
any-cons_option test None xs = refl
any-cons_option test (Some x) xs = refl
