use Rattle.std.proofs.Common.{[], ap, sym, ◌∙◌}
use Rattle.std.specs.FinMap.{get}
use Rattle.cookie.specs.Jar.{JarState, overlay}
use Rattle.cookie.specs.Table.{by_name, delta_mark, original_fields}
use Rattle.cookie.proofs.NameLemmas.{IsKeyedByName-empty, get-by_name}
use Rattle.cookie.proofs.jar.CookieJar.reset_delta.Goals as goal

pub invariant_of-self : goal.invariant_of-self
invariant_of-self c = (
  record {
    originals = c.self.invariant.0.originals;
    delta = rw c.clear.ensures.entries (IsKeyedByName-empty _);
  },
  c.self.invariant.1 ∙ sym c.clear.ensures.hash,
)

pub returns-clause-originals : goal.returns-clause-originals
returns-clause-originals c = λ name.
    let original = get (by_name original_fields c.self.inside.originals.entries) name in
    ap (λ es. overlay (get (by_name delta_mark es) name) original) c.clear.ensures.entries
    ∙ ap (λ entry. overlay entry original) (get-by_name delta_mark [] name)
    ∙ ap (λ (jar : JarState). get jar.originals name) c.self.view_is
