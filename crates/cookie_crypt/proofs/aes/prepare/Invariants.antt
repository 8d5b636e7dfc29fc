use Rattle.std.proofs.Common.{◌≡◌, ℕ, ◌*◌, ◌<◌, ◌≤◌, length, slice_index}
use Rattle.cookie_crypt.specs.Turned.{key_byte}
use Rattle.cookie_crypt.proofs.aes.prepare.Given as goal

abbrev pub invariant-loop-round : goal.invariant-loop-round
invariant-loop-round l = record {
  places : length l.prepared ≡ 240;
  made : (p : ℕ) → p < 16 * l.round → key_byte p (slice_index l.prepared p) ≡ slice_index l.words p;
  left : (p : ℕ) → 16 * l.round ≤ p → slice_index l.prepared p ≡ 0;
}
