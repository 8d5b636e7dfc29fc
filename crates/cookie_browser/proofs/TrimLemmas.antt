-- Where a text is cut.
use Rattle.std.proofs.Common.{◌≡◌, ℕ, ◌==◌, true, List, [], ◌∷◌, ◌++◌, Option, Some, None, refl, ap, ◌∙◌, arith}
use Rattle.std.proofs.lemmas.Bool.{cond-true, cond-false, ne_eqb}
use Rattle.std.proofs.lemmas.Bool.Decides.{nat_tests}
use Rattle.std.proofs.lemmas.List.{append-nil}
use Rattle.cookie_core.specs.Pieces.{Lacks}
use Rattle.cookie_core.specs.Walk.{behind}
use Rattle.cookie_core.proofs.ReadingLemmas.{Lacks-tail}
use Rattle.cookie_browser.specs.Bytes.{cut}

-- a text that is cut at the first mark
pub cut-at : (c : ℕ) (xs ys : List ℕ) → Lacks c xs → cut c (xs ++ c ∷ ys) ≡ (xs, Some ys)
unfolding cut
cut-at c [] ys lacks = let same : (c == c) ≡ true = grind (arith, nat_tests) in cond-true _ _ _ same
cut-at c (x ∷ xs) ys lacks =
    cond-false _ _ _ (ne_eqb x c (lacks 0 (omega arith))) ∙ ap (λ r. (x ∷ r.0, r.1)) (cut-at c xs ys (Lacks-tail c x xs lacks))

pub cut-none : (c : ℕ) (xs : List ℕ) → Lacks c xs → cut c xs ≡ (xs, None)
unfolding cut
cut-none c [] lacks = refl
cut-none c (x ∷ xs) lacks =
    cond-false _ _ _ (ne_eqb x c (lacks 0 (omega arith))) ∙ ap (λ r. (x ∷ r.0, r.1)) (cut-none c xs (Lacks-tail c x xs lacks))

pub cut-rest : (xs : List ℕ) (o : Option (List ℕ)) → Lacks 59 xs → cut 59 (xs ++ behind o) ≡ (xs, o)
cut-rest xs None lacks = ap (cut 59) (append-nil xs) ∙ cut-none 59 xs lacks
cut-rest xs (Some t) lacks = cut-at 59 xs t lacks
