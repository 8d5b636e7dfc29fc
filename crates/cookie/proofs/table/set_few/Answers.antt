use Rattle.std.proofs.Common.{◌≡◌, None, Some, position, rules, subst, sym}
use Rattle.std.specs.List.{IsDistinct}
use Rattle.std.specs.Map.{keys_of}
use Rattle.cookie.specs.Table.{key_eq, key_name}
use Rattle.cookie.proofs.RowLemmas.{has_name, distinct_push, found_at, keys_set, none_at, push_at, put_shows, set_at}
use Rattle.cookie.proofs.table.set_few.Goals as goal

pub returns-in-Some-clause-ok : goal.returns-in-Some-clause-ok
returns-in-Some-clause-ok g c =
    let q = key_name c.args.key in
    let es = c.args.pairs.now.items in
    let place : position (has_name q) (keys_of es) ≡ Some c.in-Some.place = search rules in
    put_shows g.X.Entry.shows es _ q c.args.entry (set_at q es c.in-Some.place c.index_mut.result.now c.args.entry (found_at q es c.in-Some.place place) c.index_mut.ensures.value)

pub returns-in-Some-clause-unique : goal.returns-in-Some-clause-unique
returns-in-Some-clause-unique g c = λ distinct.
    subst (IsDistinct key_eq) (sym (keys_set c.args.pairs.now.items c.in-Some.place c.index_mut.result.now c.args.entry c.index_mut.ensures.value)) distinct

pub returns-in_ok-push-in-None-clause-ok : goal.returns-in_ok-push-in-None-clause-ok
returns-in_ok-push-in-None-clause-ok g c =
    let q = key_name c.args.key in
    let es = c.args.pairs.now.items in
    let place : position (has_name q) (keys_of es) ≡ None = search rules in
    rw c.in_ok-push-in-None.ensures.items (put_shows g.X.Entry.shows es _ q c.args.entry (push_at es c.args.key c.args.entry (none_at q es place)))

pub returns-in_ok-push-in-None-clause-unique : goal.returns-in_ok-push-in-None-clause-unique
returns-in_ok-push-in-None-clause-unique g c =
    let q = key_name c.args.key in
    let es = c.args.pairs.now.items in
    let place : position (has_name q) (keys_of es) ≡ None = search rules in
    rw c.in_ok-push-in-None.ensures.items (distinct_push es c.args.key c.args.entry (none_at q es place))
