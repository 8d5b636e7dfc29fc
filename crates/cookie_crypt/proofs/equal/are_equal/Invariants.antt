use Rattle.std.proofs.Common.{◌≡◌, ◌<◌, ℕ, slice_index}
use Rattle.cookie_crypt.proofs.equal.are_equal.Given as goal

abbrev pub invariant-loop-i : goal.invariant-loop-i
invariant-loop-i l = record {
  same : l.first ≡ l.second → l.differences ≡ 0;
  each : l.differences ≡ 0 → (k : ℕ) → k < l.i → slice_index l.first k ≡ slice_index l.second k;
}
