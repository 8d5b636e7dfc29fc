-- Mirrors private code: the steps of an exchange and of `rounds`.
use Rattle.std.specs.Prelude.{◌≡◌, ℕ, List, [], ◌∷◌, map, OnOk, None, Result}
use Rattle.std.specs.FinMap.{get, entries}
use Rattle.cookie.specs.History.{originals_of}
use Rattle.cookie.specs.Jar.{Change, JarState, after}
use Rattle.cookie.specs.Originals.{field_cookies}
use Rattle.cookie.specs.Record.{plain}
use Rattle.cookie_client.specs.Client.{Values, header_text}
use Rattle.cookie_client.specs.Originals.{holding}

-- where the jar is what the change made of one before, the client holds what it added as an original
abbrev pub HoldsAdded : {T E : Type 0} → Change → JarState → Values → Values → Result T E → Type 0
HoldsAdded change jar old new result =
    (before : JarState) → jar ≡ after change before
    → OnOk result (new ≡ holding (originals_of (change ∷ [])) old)

-- the header of a client, with all that it holds
pub record IsHeaderOf (client : Values) (header : List ℕ) : Type 0 where
  pub text : header ≡ header_text client
  pub named : get client [] ≡ None
  pub read : field_cookies header ≡ map (λ pair. plain pair.0 pair.1) (entries client)
