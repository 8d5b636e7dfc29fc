use Rattle.cookie.proofs.NameLemmas.{remove_shows}
use Rattle.cookie.proofs.table.discard_many.Goals as goal

pub returns-clause-removed : goal.returns-clause-removed
returns-clause-removed g c =
    remove_shows g.X.Entry.shows c.args.table.now c.swap_remove.new.self c.args.name.now c.swap_remove.ensures.updates
