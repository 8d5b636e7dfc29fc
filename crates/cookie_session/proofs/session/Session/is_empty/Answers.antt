use Rattle.std.proofs.Common.{◌≡◌, ℕ, Bool, true, false, not, List, [], ◌∷◌, Option, Some, None, IsTrue, is_some, length, ap, refl, sym, ◌∙◌}
use Rattle.std.proofs.lemmas.List.{nil_from_length}
use Rattle.std.specs.FinMap.{FinMap, empty, empty_of_len, entries, len-empty, len-entries}
use Rattle.std.specs.Map.Iter.{TakesFirst}
use Rattle.cookie.specs.Jar.{name_cmp}
use Rattle.cookie_session.specs.Session.{SessionState}
use Rattle.cookie_session.proofs.session.Session.is_empty.Goals as goal

-- whether there is a first one tells whether there are any
there_are : {A X : Type 0} (shows : A → X) (all rest : List X) (first : Option A) (none : Bool) → TakesFirst shows all first rest → is_some first ≡ not none
    → (IsTrue none → all ≡ []) × (all ≡ [] → IsTrue none)
there_are shows all rest None true took is = (λ _. took.0, λ _. refl)
there_are shows all rest None false took is = (λ e. cc, λ e. cc)
there_are shows all rest (Some x) true took is = (λ e. cc, λ e. cc)
there_are shows all rest (Some x) false took is = (λ e. cc, λ e. let clash : [] ≡ shows x ∷ rest = sym e ∙ took in cc)

-- only the empty map has no entries
no_entries : (map : FinMap name_cmp (List ℕ)) → (entries map ≡ [] → map ≡ empty) × (map ≡ empty → entries map ≡ [])
no_entries map = (
  λ none. empty_of_len map (len-entries map ∙ ap length none),
  λ is. ap entries is ∙ nil_from_length (entries empty) (sym (len-entries empty) ∙ len-empty name_cmp (List ℕ)),
)

pub returns : goal.returns
returns c =
    let told = there_are _ _ _ c.next.result c.is_none.result c.next.ensures.steps c.is_none.ensures in
    let texts = no_entries c.self.inside.texts in
    let same = ap (λ (s : SessionState). s.texts) c.self.view_is in (
      λ none. sym same ∙ texts.0 (sym c.pairs.ensures.listed ∙ told.0 none),
      λ is. told.1 (c.pairs.ensures.listed ∙ texts.1 (same ∙ is)),
    )
