use Rattle.std.proofs.Common.{◌≡◌, ℕ, ◌+◌, ◌≤◌, [], bit_xor, slice_index, get_or}
use Rattle.cookie_crypt.specs.BlockField.{times_power}
use Rattle.cookie_crypt.specs.Gcm.{number_of}
use Rattle.cookie_crypt.specs.Lanes.{IsLanes, looked_up}
use Rattle.cookie_crypt.proofs.ColumnLemmas.{summed}
use Rattle.cookie_crypt.proofs.multiples.product.Given as goal

abbrev pub invariant-loop-done : goal.invariant-loop-done
invariant-loop-done l = record {
  first_lanes : IsLanes l.first;
  rest_lanes : IsLanes l.rest;
  rest_ends : (k : ℕ) → l.done ≤ k + 1 → slice_index l.rest k ≡ 0;
  sum_is : bit_xor (number_of l.first) (times_power 128 (number_of l.rest)) ≡ summed (λ b. number_of (looked_up (get_or l.upper b []) (get_or l.lower b []) l.bytes)) l.done;
}
