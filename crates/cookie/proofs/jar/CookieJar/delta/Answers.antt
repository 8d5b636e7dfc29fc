use Rattle.std.proofs.Common.{ap, subst, length, arith}
use Rattle.std.proofs.lemmas.List.{length-map}
use Rattle.std.specs.FinMap.{get}
use Rattle.std.specs.Map.{values_of}
use Rattle.std.specs.Option.{option_map}
use Rattle.std.specs.Prelude.{map}
use Rattle.cookie.specs.Jar.{JarState}
use Rattle.cookie.specs.Table.{delta_mark}
use Rattle.cookie.specs.Walk.{Walks}
use Rattle.cookie.proofs.WalkLemmas.{walks_values}
use Rattle.cookie.proofs.jar.CookieJar.delta.Goals as goal

pub returns-clause-walks : goal.returns-clause-walks
returns-clause-walks c =
    let entries = c.self.inside.delta.entries in
    rw (c.new.ensures, c.values-entries.ensures) (
    subst (λ (s : JarState). Walks (λ n. option_map (λ m. m.cookie) (get s.delta n)) (map (λ d. (delta_mark d).cookie) (values_of entries))) c.self.view_is (
    walks_values delta_mark (λ m. m.cookie) entries c.len-len.ensures.unique c.self.invariant.0.delta))

pub returns-clause-fits : goal.returns-clause-fits
returns-clause-fits c =
    let entries = c.self.inside.delta.entries in
    let values = c.values-entries in
    omega (
      arith,
      ap length c.new.ensures,
      length-map values.result (λ d. (delta_mark d).cookie),
      ap length values.ensures,
      length-map entries (λ e. e.1),
      c.len-len.ensures.len,
      c.len-len.ensures.small,
    )
