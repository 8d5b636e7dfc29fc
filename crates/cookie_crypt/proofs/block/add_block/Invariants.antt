use Rattle.std.proofs.Common.{◌≡◌, ℕ, ◌+◌, ◌<◌, ◌≤◌, bit_xor, length, slice_index}
use Rattle.cookie_crypt.proofs.block.add_block.Given as goal

abbrev pub invariant-loop-j : goal.invariant-loop-j
invariant-loop-j l = record {
  places : length l.bytes ≡ length l.initial.bytes;
  added : (i : ℕ) → i < l.j → slice_index l.bytes (l.start + i) ≡ bit_xor (slice_index l.initial.bytes (l.start + i)) (slice_index l.block i);
  before : (k : ℕ) → k < l.start → slice_index l.bytes k ≡ slice_index l.initial.bytes k;
  after : (k : ℕ) → l.start + l.j ≤ k → slice_index l.bytes k ≡ slice_index l.initial.bytes k;
}
