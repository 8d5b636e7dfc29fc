use Rattle.std.proofs.Common.{◌∙◌}
use Rattle.std.proofs.lemmas.Map.Iter.{hash_map_turn}
use Rattle.std.specs.Map.Iter.{deref_pair}
use Rattle.cookie.specs.Table.{by_name, key_name}
use Rattle.cookie.proofs.NameLemmas.{key_equiv}
use Rattle.cookie.proofs.TableCopyLemmas.{all_copied, copied_more, none_copied}
use Rattle.cookie.proofs.table.copy_many.Goals as goal

pub loop-key-init : goal.loop-key-init
loop-key-init g c = (
  none_copied g.X.Entry.shows c.args.table.now.entries c.into_iter-key-iterator.result c.in_ok-made.made.entries
      c.in_ok-made.ensures.empty c.into_iter-key-iterator.ensures.into_iter_gives.0,
  c.in_ok-made.ensures.hasher ∙ c.hasher-hash.ensures,
)

pub loop-key-preserved : goal.loop-key-preserved
loop-key-preserved g c =
    let start = c.into_iter-key-iterator.ensures.into_iter_gives in
    let found = hash_map_turn deref_pair c.loop-key.yielded c.into_iter-key-iterator.result c.loop-key.key-iterator c.next.new.self c.next.result
    (c.in-Some.key, c.in-Some.entry) c.loop-key.yielded_by c.in-Some.is c.next.ensures.steps key_equiv c.args.table.now start.0 start.4 in (
      rw c.in_ok-set_many.ensures.ok (
          copied_more g.X.Entry.shows c.args.table.now.entries c.loop-key.key-iterator c.next.new.self (by_name g.X.Entry.shows c.loop-key.made.entries)
          c.in-Some.key.now c.in-Some.entry.now (key_name c.in_ok-copy.field-0) (g.X.Entry.shows c.in_ok-copy-2.field-0)
          c.in_ok-copy.ensures c.in_ok-copy-2.ensures c.in-Some.ensures.steps found.1 c.loop-key.invariant.0),
      c.in_ok-set_many.ensures.hash ∙ c.loop-key.invariant.1,
    )

pub returns-clause-shows : goal.returns-clause-shows
returns-clause-shows g c =
    all_copied g.X.Entry.shows c.args.table.now.entries c.loop-key.key-iterator (by_name g.X.Entry.shows c.loop-key.made.entries)
    c.in-None.ensures.steps.0 c.loop-key.invariant.0
