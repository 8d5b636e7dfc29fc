use Rattle.std.proofs.Common.{◌≡◌, None, Some, position, rules}
use Rattle.std.specs.Map.{keys_of}
use Rattle.cookie.proofs.RowLemmas.{absent_shows, has_name, none_at, removed_at}
use Rattle.cookie.proofs.table.discard_few.Goals as goal

pub returns-in-Some-clause-removed : goal.returns-in-Some-clause-removed
returns-in-Some-clause-removed g c =
    let es = c.args.pairs.now.items in
    let place : position (has_name c.args.name.now) (keys_of es) ≡ Some c.in-Some.place = search rules in
    (removed_at g.X.Entry.shows es _ c.args.name.now c.in-Some.place c.swap_remove.result place c.swap_remove.ensures.value c.requires c.swap_remove.ensures.items).0

pub returns-in-Some-clause-unique : goal.returns-in-Some-clause-unique
returns-in-Some-clause-unique g c =
    let es = c.args.pairs.now.items in
    let place : position (has_name c.args.name.now) (keys_of es) ≡ Some c.in-Some.place = search rules in
    (removed_at g.X.Entry.shows es _ c.args.name.now c.in-Some.place c.swap_remove.result place c.swap_remove.ensures.value c.requires c.swap_remove.ensures.items).1

pub returns-in_default-clause-removed : goal.returns-in_default-clause-removed
returns-in_default-clause-removed g c =
    let es = c.args.pairs.now.items in
    let place : position (has_name c.args.name.now) (keys_of es) ≡ None = search rules in
    absent_shows g.X.Entry.shows es c.args.name.now (none_at c.args.name.now es place)
