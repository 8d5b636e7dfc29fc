use Rattle.std.proofs.Common.{◌≡◌, ℕ, List}
use Rattle.std.specs.FinMap.{get}
use Rattle.indexmap.specs.IndexMap.{hasher_of}
use Rattle.cookie.specs.Table.{by_name}
use Rattle.cookie.proofs.TableCopyLemmas.{shown_at, first_of}
use Rattle.cookie.proofs.table.copy_many.Given as goal

-- what the copy or what is left shows at a name is what the table shows there, and both hash names alike
abbrev pub invariant-loop-key : goal.invariant-loop-key
invariant-loop-key g l =
    ((q : List ℕ) → first_of (get (by_name g.X.Entry.shows l.made.entries) q) (shown_at g.X.Entry.shows l.key-iterator q) ≡ shown_at g.X.Entry.shows l.table.entries q)
    × (hasher_of l.made ≡ hasher_of l.table)
