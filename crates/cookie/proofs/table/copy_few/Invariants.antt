use Rattle.std.proofs.Common.{◌≡◌, ℕ, List, drop}
use Rattle.std.specs.FinMap.{get}
use Rattle.std.specs.List.{IsDistinct}
use Rattle.std.specs.Map.{keys_of}
use Rattle.cookie.specs.Table.{by_name, key_eq}
use Rattle.cookie.proofs.TableCopyLemmas.{shown_at, first_of}
use Rattle.cookie.proofs.table.copy_few.Given as goal

-- the copy or what is left shows at a name what the entries show there
abbrev pub invariant-loop-pair : goal.invariant-loop-pair
invariant-loop-pair g l =
    ((q : List ℕ) → first_of (get (by_name g.X.Entry.shows l.made.items) q) (shown_at g.X.Entry.shows (drop l.pair-index l.pairs) q) ≡ shown_at g.X.Entry.shows l.pairs q)
    × IsDistinct key_eq (keys_of l.made.items)
