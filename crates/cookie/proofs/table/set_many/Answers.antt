use Rattle.std.proofs.Common.{ap, refl, ◌∙◌}
use Rattle.std.specs.FinMap.{insert}
use Rattle.cookie.specs.Table.{key_name}
use Rattle.cookie.proofs.NameLemmas.{insert_shows}
use Rattle.cookie.proofs.table.set_many.Goals as goal

pub returns-clause-ok : goal.returns-clause-ok
returns-clause-ok g c =
    insert_shows g.X.Entry.shows c.make_room.new.table c.insert.new.self c.args.key (key_name c.args.key) c.args.entry refl c.in_ok-insert.ensures.updates
    ∙ ap (λ m. insert m (key_name c.args.key) (g.X.Entry.shows c.args.entry)) c.in_ok-make_room.ensures.same
