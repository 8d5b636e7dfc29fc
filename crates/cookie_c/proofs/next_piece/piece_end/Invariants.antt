use Rattle.std.proofs.Common.{length, ◌-◌, ◌≤◌, ◌<◌, ℕ, get_or}
use mathlib.Core.Logic.{◌≢◌}
use Rattle.cookie_c.proofs.next_piece.piece_end.Given as goal

abbrev pub invariant-loop-end : goal.invariant-loop-end
invariant-loop-end l = record {
  forward : l.fn.start ≤ l.end;
  within : l.end ≤ length l.fn.header;
  apart : (i : ℕ) → l.fn.start ≤ i → i < l.end → get_or l.fn.header i 0 ≢ 59;
}

abbrev pub decreases-loop-end : goal.decreases-loop-end
decreases-loop-end l = length l.fn.header - l.end
