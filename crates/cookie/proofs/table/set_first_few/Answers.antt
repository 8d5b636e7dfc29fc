use Rattle.std.proofs.Common.{◌≡◌, is_none, true, false, position, rules}
use Rattle.std.specs.Map.{keys_of}
use Rattle.cookie.specs.Table.{key_name}
use Rattle.cookie.proofs.FirstLemmas.{first_kept, first_pushed, none-none}
use Rattle.cookie.proofs.RowLemmas.{distinct_push, has_name, none_at}
use Rattle.cookie.proofs.table.set_first_few.Goals as goal

pub returns-in_ok-push-clause-ok : goal.returns-in_ok-push-clause-ok
returns-in_ok-push-clause-ok g c =
    let none : is_none (position (has_name (key_name c.args.key)) (keys_of c.args.pairs.now.items)) ≡ true = search rules in
    rw c.in_ok-push.ensures.items (first_pushed g.X.Entry.shows c.args.pairs.now.items c.args.key c.args.entry none)

pub returns-in_ok-push-clause-unique : goal.returns-in_ok-push-clause-unique
returns-in_ok-push-clause-unique g c =
    let q = key_name c.args.key in
    let es = c.args.pairs.now.items in
    let none : is_none (position (has_name q) (keys_of es)) ≡ true = search rules in
    rw c.in_ok-push.ensures.items (distinct_push es c.args.key c.args.entry (none_at q es (none-none _ none)))

pub returns-else-is_none-clause-ok : goal.returns-else-is_none-clause-ok
returns-else-is_none-clause-ok g c =
    let some : is_none (position (has_name (key_name c.args.key)) (keys_of c.args.pairs.now.items)) ≡ false = search rules in
    first_kept g.X.Entry.shows c.args.pairs.now.items (key_name c.args.key) (g.X.Entry.shows c.args.entry) some
