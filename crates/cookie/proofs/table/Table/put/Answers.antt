use Rattle.std.proofs.Common.{sym, ap, subst, ◌∙◌}
use Rattle.std.specs.FinMap.{insert}
use Rattle.cookie.specs.Table.{IsKeyedByName, by_name, key_name}
use Rattle.cookie.proofs.NameLemmas.{IsKeyedByName-insert}
use Rattle.cookie.proofs.table.Table.put.Goals as goal

pub returns-clause-named : goal.returns-clause-named
returns-clause-named g c = λ named.
    let shown = g.X.Entry.shows c.args.entry in
    let ok = c.in_ok-set.ensures.ok
    ∙ ap (λ es. insert (by_name g.X.Entry.shows es) (key_name c.in_ok-key.key) shown) c.in_ok-spread.ensures.same
    ∙ ap (λ k. insert (by_name g.X.Entry.shows c.args.self.now.entries) k shown) c.in_ok-key.ensures in
    subst (IsKeyedByName g.X.Entry.name_of) (sym ok) (IsKeyedByName-insert g.X.Entry.name_of (by_name g.X.Entry.shows c.args.self.now.entries) shown named)
