use Rattle.std.proofs.Common.{◌≡◌, map, length}
use Rattle.cookie.specs.Shown.{uncovered}
use Rattle.cookie.specs.Table.{by_name, delta_mark, original_fields}
use Rattle.cookie.proofs.iter.next_uncovered.Given as goal

abbrev pub invariant-loop-original : goal.invariant-loop-original
invariant-loop-original l =
    uncovered (by_name delta_mark l.initial.delta.entries) (map original_fields l.initial.originals) ≡ uncovered (by_name delta_mark l.initial.delta.entries) (map original_fields l.originals)

abbrev pub decreases-loop-original : goal.decreases-loop-original
decreases-loop-original l = length l.originals
