use Rattle.std.proofs.Common.{◌≡◌, ℕ, ◌*◌, ◌<◌, ◌≤◌, bit_xor, slice_index, length}
use Rattle.cookie_crypt.specs.Gcm.{key_stream}
use Rattle.cookie_crypt.specs.Steps.{with_blocks}
use Rattle.cookie_crypt.proofs.sealing.add_key_stream.Given as goal

abbrev pub invariant-loop-i : goal.invariant-loop-i
invariant-loop-i l = record {
  counted : l.steps ≡ with_blocks l.i l.initial.steps;
  places : length l.text ≡ length l.initial.text;
  turned : (k : ℕ) → k < 16 * l.i → k < length l.initial.text → slice_index l.text k ≡ bit_xor (slice_index l.initial.text k) (key_stream l.cipher l.nonce k);
  left : (k : ℕ) → 16 * l.i ≤ k → slice_index l.text k ≡ slice_index l.initial.text k;
}
