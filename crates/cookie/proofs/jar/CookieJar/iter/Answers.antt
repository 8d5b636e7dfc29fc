use Rattle.std.proofs.Common.{◌∙◌, ◌++◌, ap, subst, map, length, arith}
use Rattle.std.proofs.lemmas.List.{length-map}
use Rattle.std.specs.FinMap.{get}
use Rattle.std.specs.Map.{values_of}
use Rattle.cookie.specs.Jar.{JarState, view}
use Rattle.cookie.specs.Shown.{additions, uncovered}
use Rattle.cookie.specs.Table.{by_name, delta_mark, original_fields}
use Rattle.cookie.specs.Walk.{Walks}
use Rattle.cookie.proofs.ShownLemmas.{walks_shown, length-shown, option_map-itself}
use Rattle.cookie.proofs.WalkLemmas.{values_found, values_once}
use Rattle.cookie.proofs.jar.CookieJar.iter.Goals as goal

pub returns-clause-walks : goal.returns-clause-walks
returns-clause-walks c =
    let delta = c.self.inside.delta.entries in
    let originals = c.self.inside.originals.entries in
    let delta_once = c.len-changes.ensures.unique in
    let originals_once = c.len-originals.ensures.unique in
    rw c.new.ensures (
    subst (λ (s : JarState). Walks (view s) (additions (map delta_mark (values_of delta)) ++ uncovered (by_name delta_mark delta) (map original_fields (values_of originals)))) c.self.view_is (
    walks_shown (by_name delta_mark delta) (by_name original_fields originals) (map delta_mark (values_of delta)) (map original_fields (values_of originals))
    (λ n. values_found delta_mark (λ m. m) (λ m. m.cookie.name) delta delta_once c.self.invariant.0.delta n ∙ option_map-itself (get (by_name delta_mark delta) n))
    (values_once delta_mark (λ m. m) (λ m. m.cookie.name) delta delta_once c.self.invariant.0.delta)
    (record {
      found = λ n. values_found original_fields (λ r. r) (λ r. r.name) originals originals_once c.self.invariant.0.originals n ∙ option_map-itself (get (by_name original_fields originals) n);
      once = values_once original_fields (λ r. r) (λ r. r.name) originals originals_once c.self.invariant.0.originals;
    })))

pub returns-clause-fits : goal.returns-clause-fits
returns-clause-fits c =
    let delta = c.self.inside.delta.entries in
    let originals = c.self.inside.originals.entries in
    omega (
      arith,
      ap length c.new.ensures,
      length-shown (by_name delta_mark delta) (map delta_mark (values_of delta)) (map original_fields (values_of originals)),
      length-map (values_of delta) delta_mark,
      length-map delta (λ e. e.1),
      length-map (values_of originals) original_fields,
      length-map originals (λ e. e.1),
      c.len-changes.ensures.len,
      c.len-changes.ensures.small,
      c.len-originals.ensures.len,
      c.len-originals.ensures.small,
    )
