use Rattle.std.proofs.Common.{sym, ap, subst, ◌∙◌}
use Rattle.cookie.specs.Table.{IsKeyedByName, by_name, key_name, with_first}
use Rattle.cookie.proofs.FirstLemmas.{IsKeyedByName-first}
use Rattle.cookie.proofs.table.Table.put_first.Goals as goal

pub returns-clause-named : goal.returns-clause-named
returns-clause-named g c = λ named.
    let shown = g.X.Entry.shows c.args.entry in
    let before = by_name g.X.Entry.shows c.args.self.now.entries in
    let ok = c.in_ok-set_first.ensures.ok
    ∙ ap (λ es. with_first (by_name g.X.Entry.shows es) (key_name c.in_ok-key.key) shown) c.in_ok-spread.ensures.same
    ∙ ap (λ k. with_first before k shown) c.in_ok-key.ensures in
    subst (IsKeyedByName g.X.Entry.name_of) (sym ok) (IsKeyedByName-first g.X.Entry.name_of before shown named)
