use Rattle.std.proofs.Common.{◌++◌, sym, ap, subst, ◌∙◌}
use Rattle.std.specs.FinMap.{remove}
use Rattle.cookie.specs.Table.{IsKeyedByName, TableState, by_name}
use Rattle.cookie.proofs.NameLemmas.{IsKeyedByName-remove}
use Rattle.cookie.proofs.RowLemmas.{all_few, no_few}
use Rattle.cookie.proofs.table.Table.discard.Goals as goal

pub returns-then-is_empty-clause-named : goal.returns-then-is_empty-clause-named
returns-then-is_empty-clause-named g c = λ named.
    let q = c.args.name.now in
    let none = c.is_empty.ensures.0 c.if-is_empty.true in
    let whole = sym (all_few c.self.inside.few.items c.self.inside.many.entries none) ∙ ap (λ (s : TableState _). s.entries) c.self.view_is in
    let removed = ap (by_name g.X.Entry.shows) (all_few c.discard_few.new.pairs.items c.self.inside.many.entries none)
    ∙ c.discard_few.ensures.removed ∙ ap (λ l. remove (by_name g.X.Entry.shows l) q) whole in
    subst (IsKeyedByName g.X.Entry.name_of) (sym removed) (IsKeyedByName-remove g.X.Entry.name_of (by_name g.X.Entry.shows c.args.self.now.entries) q named)

pub returns-else-is_empty-clause-named : goal.returns-else-is_empty-clause-named
returns-else-is_empty-clause-named g c = λ named.
    let q = c.args.name.now in
    let es = c.self.inside.many.entries in
    let none = no_few c.self.inside.few.items es c.self.invariant.1 (λ empty. sym (c.is_empty.ensures.1 empty) ∙ c.if-is_empty.false) in
    let whole = sym (ap (λ l. l ++ es) none) ∙ ap (λ (s : TableState _). s.entries) c.self.view_is in
    let removed = ap (λ l. by_name g.X.Entry.shows (l ++ c.discard_many.new.table.entries)) none
    ∙ c.discard_many.ensures.removed ∙ ap (λ l. remove (by_name g.X.Entry.shows l) q) whole in
    subst (IsKeyedByName g.X.Entry.name_of) (sym removed) (IsKeyedByName-remove g.X.Entry.name_of (by_name g.X.Entry.shows c.args.self.now.entries) q named)
