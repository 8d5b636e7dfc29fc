use Rattle.std.proofs.Common.{◌+◌, Some, refl, sym, ap, subst, arith, ◌∷◌, drop, ◌∙◌}
use Rattle.std.proofs.lemmas.List.{drop_all, drop_more}
use Rattle.std.proofs.lemmas.Map.Entries.{lookup_from_place}
use Rattle.std.proofs.lemmas.Option.{slice_get-get_or}
use Rattle.std.specs.List.{IsDistinct}
use Rattle.std.specs.Map.{keys_of}
use Rattle.cookie.specs.Table.{by_name, key_eq, key_name}
use Rattle.cookie.proofs.NameLemmas.{key_equiv}
use Rattle.cookie.proofs.RowLemmas.{distinct_none}
use Rattle.cookie.proofs.TableCopyLemmas.{all_copied, copied_more, none_copied}
use Rattle.cookie.proofs.table.copy_few.Goals as goal

pub loop-pair-init : goal.loop-pair-init
loop-pair-init g c = (
  none_copied g.X.Entry.shows c.args.pairs.now c.args.pairs.now c.in_ok-made.made.items c.in_ok-made.ensures.items refl,
  subst (λ es. IsDistinct key_eq (keys_of es)) (sym c.in_ok-made.ensures.items) distinct_none,
)

pub loop-pair-preserved : goal.loop-pair-preserved
loop-pair-preserved g c =
    let all = c.args.pairs.now in
    let i = c.loop-pair.pair-index in
    let pair = c.pair-item.result in
    let rest = drop (i + 1) all in
    let next = drop_more all i pair c.loop-pair-test.true ∙ ap (λ e. e ∷ rest) (sym c.pair-item.is) in
    let found = lookup_from_place key_equiv all i pair.0 pair.1 c.requires (slice_get-get_or all i pair c.loop-pair-test.true ∙ ap Some (sym c.pair-item.is)) in (
      rw c.in_ok-set_few.ensures.ok (
          copied_more g.X.Entry.shows all (drop i all) rest (by_name g.X.Entry.shows c.loop-pair.made.items)
          pair.0 pair.1 (key_name c.in_ok-copy.field-0) (g.X.Entry.shows c.in_ok-copy-2.field-0)
          c.in_ok-copy.ensures c.in_ok-copy-2.ensures next found c.loop-pair.invariant.0),
      c.in_ok-set_few.ensures.unique c.loop-pair.invariant.1,
    )

pub returns-clause-shows : goal.returns-clause-shows
returns-clause-shows g c =
    all_copied g.X.Entry.shows c.args.pairs.now (drop c.loop-pair.pair-index c.args.pairs.now) (by_name g.X.Entry.shows c.loop-pair.made.items)
    (drop_all c.loop-pair.pair-index c.args.pairs.now (omega arith)) c.loop-pair.invariant.0
