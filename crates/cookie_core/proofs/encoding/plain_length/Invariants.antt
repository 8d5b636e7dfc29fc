use Rattle.std.proofs.Common.{◌-◌, ◌≤◌, length}
use Rattle.cookie_core.proofs.EscapeLemmas.{IsPlainTo}
use Rattle.cookie_core.proofs.encoding.plain_length.Given as goal

abbrev pub invariant-loop-passed : goal.invariant-loop-passed
invariant-loop-passed l = record {
  bound : l.at ≤ length l.text;
  plain : IsPlainTo l.text l.at;
}

abbrev pub decreases-loop-passed : goal.decreases-loop-passed
decreases-loop-passed l = length l.text - l.at
