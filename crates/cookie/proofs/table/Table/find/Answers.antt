use Rattle.std.proofs.Common.{◌≡◌, ◌++◌, None, Some, position, rules, sym, ap, ◌∙◌}
use Rattle.std.specs.FinMap.{get}
use Rattle.std.specs.Map.{keys_of}
use Rattle.std.specs.Option.{option_map}
use Rattle.cookie.specs.Table.{TableState, by_name}
use Rattle.cookie.proofs.NameLemmas.{get-by_name, shown_copied}
use Rattle.cookie.proofs.RowLemmas.{all_few, found_at, has_name, no_few, none_at, value_at}
use Rattle.cookie.proofs.table.Table.find.Goals as goal

pub returns-in-Some : goal.returns-in-Some
returns-in-Some g c =
    let q = c.args.name.now in
    let es = c.self.inside.few.items in
    let place : position (has_name q) (keys_of es) ≡ Some c.in-Some.place = search rules in
    let whole = sym (all_few es c.self.inside.many.entries (c.is_empty.ensures.0 c.if-is_empty.true)) ∙ ap (λ (s : TableState _). s.entries) c.self.view_is in
    ap (option_map g.X.Entry.shows) (sym (value_at q es c.in-Some.place c.index.result.now (found_at q es c.in-Some.place place) c.index.ensures))
    ∙ sym (get-by_name g.X.Entry.shows es q) ∙ ap (λ l. get (by_name g.X.Entry.shows l) q) whole

pub returns-in-None : goal.returns-in-None
returns-in-None g c =
    let q = c.args.name.now in
    let es = c.self.inside.few.items in
    let place : position (has_name q) (keys_of es) ≡ None = search rules in
    let whole = sym (all_few es c.self.inside.many.entries (c.is_empty.ensures.0 c.if-is_empty.true)) ∙ ap (λ (s : TableState _). s.entries) c.self.view_is in
    ap (option_map g.X.Entry.shows) (sym (none_at q es place))
    ∙ sym (get-by_name g.X.Entry.shows es q) ∙ ap (λ l. get (by_name g.X.Entry.shows l) q) whole

pub returns : goal.returns
returns g c =
    let q = c.args.name.now in
    let es = c.self.inside.many.entries in
    let none = no_few c.self.inside.few.items es c.self.invariant.1 (λ empty. sym (c.is_empty.ensures.1 empty) ∙ c.if-is_empty.false) in
    let whole = sym (ap (λ l. l ++ es) none) ∙ ap (λ (s : TableState _). s.entries) c.self.view_is in
    shown_copied g.X.Entry.shows c.get.result ∙ ap (option_map g.X.Entry.shows) c.get.ensures.value
    ∙ sym (get-by_name g.X.Entry.shows es q) ∙ ap (λ l. get (by_name g.X.Entry.shows l) q) whole
