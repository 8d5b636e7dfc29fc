-- What a jar has as originals, and what a client then holds.
use Rattle.std.proofs.Common.{◌≡◌, [], ◌∷◌, cond, Some, Result, OnOk, sym, ap, ◌∙◌}
use Rattle.std.proofs.lemmas.Result.{on_ok_weaker}
use Rattle.std.proofs.lemmas.Slice.Eq.{bytes_eq-Decides}
use Rattle.std.specs.FinMap.{get}
use Rattle.std.specs.Option.{option_to_list}
use Rattle.cookie.specs.History.{originals_of}
use Rattle.cookie.specs.Jar.{Name, JarState, Change, AddOriginal, after}
use Rattle.cookie.specs.Record.{Record}
use Rattle.cookie.proofs.NameLemmas.{get_inserted}
use Rattle.cookie_client.specs.Client.{Values}
use Rattle.cookie_client.specs.Originals.{holding}
use Rattle.cookie_client.specs.ExchangeCode.{HoldsAdded}

-- what the jar has as the original of a name, once a cookie of that name was added
held_original : (cookie : Record) (before jar : JarState) (name : Name) → jar ≡ after (AddOriginal cookie) before → name ≡ cookie.name
    → get jar.originals name ≡ Some cookie
held_original cookie before jar name is named =
    ap (λ (j : JarState). get j.originals name) is ∙ get_inserted before.originals cookie.name cookie name
    ∙ ap (λ b. cond b (Some cookie) (get before.originals name)) ((bytes_eq-Decides name cookie.name).1 named)

-- so a client that holds it holds what the change added
pub holds_added : {T E : Type 0} (r : Result T E) (cookie : Record) (change : Change) (jar : JarState) (name : Name) (values new : Values) → change ≡ AddOriginal cookie → name ≡ cookie.name
    → OnOk r (new ≡ holding (option_to_list (get jar.originals name)) values) → HoldsAdded change jar values new r
holds_added r cookie change jar name values new asks named held before is = on_ok_weaker r (λ h.
    h ∙ ap (λ o. holding (option_to_list o) values) (held_original cookie before jar name (is ∙ ap (λ c. after c before) asks) named)
    ∙ sym (ap (λ c. holding (originals_of (c ∷ [])) values) asks)) held
