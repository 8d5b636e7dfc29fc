-- Numbers that ascend.
use Rattle.std.proofs.Common.{◌≡◌, ℕ, suc, true, eq-eqb, ◌+◌, ◌<◌, ◌≤◌, List, [], ◌∷◌, length, get_or, nat_eq, sym, subst, arith}
use Rattle.std.proofs.lemmas.List.Filters.{dedup_is}
use Rattle.std.proofs.lemmas.List.Kept.{Contains-dedup_nat}
use Rattle.std.proofs.lemmas.List.Sorted.{Contains-permutation}
use Rattle.std.proofs.lemmas.Map.Keys.{IsStrictlyIncreasing-dedup}
use Rattle.std.specs.List.{Contains, dedup}
use Rattle.std.specs.List.Retain.{DiffersFromLast, IsFiltered}
use Rattle.std.specs.List.Sorted.{IsPermutation, IsSorted, IsStrictlyIncreasing}
use Rattle.std.specs.Ordering.{nat_cmp}
use Rattle.cookie_agent.specs.LimitsCode.{Ascends}

pub same_number : (m n : ℕ) → m ≡ n → nat_eq m n ≡ true
same_number m n e = eq-eqb m n e

pub number_same : (m n : ℕ) → nat_eq m n ≡ true → m ≡ n
number_same m n e = grind arith

-- numbers each of which is below the next ascend
pub increasing-ascends : (xs : List ℕ) (least : ℕ) → IsStrictlyIncreasing xs → (0 < length xs → least ≤ get_or xs 0 0) → Ascends least xs
increasing-ascends [] least up first = tt
increasing-ascends (x ∷ xs) least up first =
    (first (omega arith), increasing-ascends xs (suc x) (λ k lt. let next : suc k + 1 ≡ suc (k + 1) = omega arith in subst (λ m. suc (get_or xs k 0) ≤ get_or (x ∷ xs) m 0) next (up (suc k) (omega (arith, lt)))) (λ lt. let step = up 0 (omega (arith, lt)) in omega (arith, step)))

-- what a sort and then a removal of repeats leaves
module _ (xs ys zs : List ℕ) (moved : IsPermutation xs ys) (kept : IsFiltered (DiffersFromLast nat_eq) [] ys zs) where
  is_dedup : zs ≡ dedup nat_eq ys
  is_dedup = dedup_is nat_eq ys zs kept

  pub places-kept : (p : ℕ) → Contains xs p → Contains zs p
  places-kept p here = subst (λ l. Contains l p) (sym is_dedup) (Contains-dedup_nat ys p (Contains-permutation xs ys p moved here))

  pub places-ascend : IsSorted nat_cmp ys → Ascends 0 zs
  places-ascend sorted =
      subst (Ascends 0) (sym is_dedup) (increasing-ascends (dedup nat_eq ys) 0 (IsStrictlyIncreasing-dedup ys sorted) (λ lt. omega arith))
