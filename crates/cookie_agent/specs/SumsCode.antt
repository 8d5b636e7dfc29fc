-- Mirrors private code: sums by which texts are compared first.
use Rattle.std.specs.Prelude.{ℕ, List, []}
use Rattle.std.specs.Cmp.Lexicographic.{slice_cmp}
use Rattle.std.specs.Hash.FoldHasher.{finish, initial, write}
use Rattle.std.specs.Ordering.{nat_cmp, ordering_then}
use Rattle.std.specs.declared.cmp.Ordering.{Ordering}

-- a sum of two texts
abbrev pub sum_of : List ℕ → List ℕ → ℕ
sum_of first second = finish (write (write initial first) second)

-- by the sum, and then by the text
abbrev pub summed_cmp : List ℕ → List ℕ → Ordering
summed_cmp left right =
    ordering_then (nat_cmp (sum_of left []) (sum_of right [])) (slice_cmp nat_cmp left right)
