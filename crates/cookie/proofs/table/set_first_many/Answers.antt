use Rattle.std.proofs.Common.{rules}
use Rattle.indexmap.specs.Entry.{map_with_value}
use Rattle.cookie.specs.Table.{by_name}
use Rattle.cookie.proofs.FirstLemmas.{first_many}
use Rattle.cookie.proofs.table.set_first_many.Goals as goal

pub returns-clause-ok : goal.returns-clause-ok
returns-clause-ok g c =
    first_many g.X.Entry.shows c.make_room.new.table (map_with_value c.in_ok-table.field-0) _ (by_name g.X.Entry.shows c.args.table.now.entries) c.args.key c.args.entry c.or_insert.result.now _
    (search rules) c.in_ok-table.ensures.update.0 c.or_insert.ensures.value c.in_ok-table.ensures.value c.in_ok-make_room.ensures.same
