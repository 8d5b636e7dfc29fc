-- Texts that are compared by their sums first.
use Rattle.std.proofs.Common.{◌≡◌, ℕ, ◌&&◌, Bool, true, false, List, [], refl, sym, ap, ◌∙◌}
use Rattle.std.proofs.lemmas.Bool.{false≢true}
use Rattle.std.proofs.lemmas.Bool.Decides.{Decides-eqb}
use Rattle.std.proofs.lemmas.Slice.Eq.{bytes_eq-Decides}
use Rattle.std.specs.Cmp.{Equal-is, IsTotalOrder, nat_cmp_total, on_total, then_total, tied_then, unsigned_ties}
use Rattle.std.specs.Cmp.Lexicographic.{nat_list_cmp_total, slice_cmp, texts_ties}
use Rattle.std.specs.Ordering.{is_eq, nat_cmp}
use Rattle.std.specs.Str.{bytes_eq}
use Rattle.std.specs.declared.cmp.Ordering.TheVariants.{Equal}
use Rattle.cookie_agent.specs.SumsCode.{sum_of, summed_cmp}

-- ---- what is tested first changes no answer, if it holds wherever the rest does

pub spared : (a b : Bool) → (b ≡ true → a ≡ true) → a && b ≡ b
spared true b f = refl
spared false true f = absurd (false≢true (f refl))
spared false false f = refl

pub tied_numbers : (a b : ℕ) → a ≡ b → is_eq (nat_cmp a b) ≡ true
tied_numbers a b e = sym (unsigned_ties a b) ∙ (Decides-eqb a b).1 e

pub same_sums : (a b : List ℕ) → bytes_eq a b ≡ true → sum_of a [] ≡ sum_of b []
same_sums a b e = ap (λ t. sum_of t []) ((bytes_eq-Decides a b).0 e)

-- ---- the order

pub summed_total : IsTotalOrder summed_cmp
summed_total = then_total (on_total (λ t. sum_of t []) nat_cmp_total) nat_list_cmp_total

-- two texts tie if they are the same
pub summed_ties : (a b : List ℕ) → is_eq (summed_cmp a b) ≡ bytes_eq a b
summed_ties a b =
    sym (tied_then (nat_cmp (sum_of a []) (sum_of b [])) (slice_cmp nat_cmp a b))
    ∙ ap (λ t. is_eq (nat_cmp (sum_of a []) (sum_of b [])) && t) (sym (texts_ties a b))
    ∙ spared _ (bytes_eq a b) (λ e. tied_numbers (sum_of a []) (sum_of b []) (same_sums a b e))

pub summed_same : (a b : List ℕ) → bytes_eq a b ≡ true → summed_cmp a b ≡ Equal
summed_same a b e = (Equal-is (summed_cmp a b)).0 (summed_ties a b ∙ e)

pub summed_exact : (a b : List ℕ) → summed_cmp a b ≡ Equal → a ≡ b
summed_exact a b e = (bytes_eq-Decides a b).0 (sym (summed_ties a b) ∙ ap is_eq e)
