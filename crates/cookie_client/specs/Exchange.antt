-- What came of calls on a jar, and of a client that followed it.
use Rattle.std.specs.Prelude.{◌≡◌, List, All}
use Rattle.std.specs.List.{AllZip}
use Rattle.jiff.specs.Types.{DateTime}
use Rattle.cookie.specs.History.{accepted_items, after_all}
use Rattle.cookie.specs.Jar.{JarState, Change}
use Rattle.cookie_client.specs.Agreement.{Agrees}
use Rattle.cookie_client.specs.Calls.{IsFit, IsFitCall, IsOutcome, changes_of}
use Rattle.cookie_client.specs.Client.{Values}
use Rattle.cookie_client.specs.declared.call.JarCall.{JarCall}
use Rattle.cookie_client.specs.declared.exchange.Played.{Played}

-- the calls that were accepted
abbrev pub accepted_calls : List JarCall → Played → List JarCall
accepted_calls calls played = accepted_items played.outcomes.items calls

-- their changes
abbrev pub changes_by : List JarCall → Played → List Change
changes_by calls played = changes_of played.outcomes.items calls

-- What came of calls on a jar, and of the client that held these values before it read the jar's
-- delta. A call that was refused counts as not made.
pub record IsExchange (now : DateTime) (start : JarState) (before : Values) (calls : List JarCall)
    (played : Played) : Type 0 where
  -- one outcome a call
  pub outcomes : AllZip IsOutcome calls played.outcomes.items
  -- the jar is what the accepted calls made of it
  pub jar : played.jar ≡ after_all (changes_by calls played) start
  -- the client agrees with it
  pub agreement : Agrees now before (changes_by calls played) played.jar played.client
  -- what is fit as it was passed in is fit as it is stored
  pub fit : All (IsFitCall now) (accepted_calls calls played)
      → All (IsFit now) (changes_by calls played)
