-- The client half of the main theorem: after any list of jar calls, a client that held each name's last accepted
-- original and has read the delta's encoded texts, in any order and with any repetition, agrees with the jar. A call
-- that was refused counts as not made: nothing is asked of it.
use Rattle.std.specs.Prelude.{◌≡◌, ℕ, Bool, false, List, [], reverse, Option, Some, None, option_map, All}
use Rattle.std.specs.FinMap.{get}
use Rattle.std.specs.Str.{bytes_eq}
use Rattle.jiff.specs.Types.{DateTime}
use Rattle.cookie.specs.History.{last_original, is_forced}
use Rattle.cookie.specs.DeltaTexts.{AreDeltaTexts}
use Rattle.cookie.specs.Jar.{Name, JarState, Change, AddOriginal, ForceRemove, view}
use Rattle.cookie.specs.Record.{Record}
use Rattle.cookie_client.specs.Calls.{IsFit}
use Rattle.cookie_client.specs.Client.{Values, after_texts}
use Rattle.cookie_client.specs.Originals.{holds_originals}

-- the value of a cookie, where there is one
abbrev pub value_of : Option Record → Option (List ℕ)
value_of cookie = option_map (λ c. c.value) cookie

-- at the name the client holds the value of the jar's original, or nothing where the jar has none
abbrev pub HoldsOriginal : Values → JarState → Name → Type 0
HoldsOriginal client jar name = get client name ≡ value_of (get jar.originals name)

-- the change adds an original of the name, or removes the name by force
abbrev pub alters_original : Name → Change → Bool
alters_original name (AddOriginal cookie) = bytes_eq name cookie.name
alters_original name (ForceRemove forced) = bytes_eq name forced
alters_original name change = false

-- The client of a jar to which these changes were made, for the client before it read the jar's delta.
pub record Agrees (now : DateTime) (before : Values) (changes : List Change) (jar : JarState)
    (client : Values)
    : Type 0 where
  -- whether the changes are fit or not, it is the one before, which read the delta's texts: in any order, and with any
  -- repetition
  pub in_any_order : (texts : List (List ℕ)) → AreDeltaTexts jar.delta texts
      → client ≡ after_texts now texts before
  -- where the changes are fit, it has the value that the jar shows at each name that the delta has,
  -- and at each whose original the one before held
  pub agrees : All (IsFit now) changes → (name : Name)
      → (get jar.delta name ≡ None → HoldsOriginal before jar name)
      → get client name ≡ value_of (view jar name)
  -- at a name that the delta doesn't have, it has what the one before held
  pub left : (name : Name) → get jar.delta name ≡ None → get client name ≡ get before name
  -- it holds nothing under the empty name if the one before held nothing there, so that its header reads back as its
  -- map (`Client::header`)
  pub named : get before [] ≡ None → get client [] ≡ None

-- What a client holds that was told of each original, for the jar that the changes made of an empty one.
pub record HoldsOriginals (now : DateTime) (changes : List Change) (jar : JarState) : Type 0 where
  -- at each name the value of the last original
  pub last : (name : Name)
      → get (holds_originals changes) name ≡ value_of (last_original name (reverse changes))
  -- which is the jar's original, where no change removes the name by force
  pub unforced : (name : Name) → is_forced name changes ≡ false
      → HoldsOriginal (holds_originals changes) jar name
  -- and wherever the jar has an original
  pub standing : (name : Name) (original : Record) → get jar.originals name ≡ Some original
      → HoldsOriginal (holds_originals changes) jar name
  -- where the changes are fit, nothing under the empty name
  pub named : All (IsFit now) changes → get (holds_originals changes) [] ≡ None
