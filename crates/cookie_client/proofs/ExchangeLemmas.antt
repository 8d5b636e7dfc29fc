-- What came of calls on a jar, once a client has read the delta.
use Rattle.std.proofs.Common.{◌≡◌, ℕ, List}
use Rattle.std.specs.FinMap.{empty}
use Rattle.std.specs.List.{AllZip}
use Rattle.jiff.specs.Types.{DateTime}
use Rattle.cookie.specs.DeltaTexts.{AreDeltaTexts}
use Rattle.cookie.specs.History.{after_all}
use Rattle.cookie.specs.Jar.{JarState}
use Rattle.cookie_client.specs.Calls.{IsOutcome}
use Rattle.cookie_client.specs.Client.{Values, after_texts}
use Rattle.cookie_client.specs.Exchange.{IsExchange, changes_by}
use Rattle.cookie_client.specs.declared.call.JarCall.{JarCall}
use Rattle.cookie_client.specs.declared.exchange.Played.{Played}
use Rattle.cookie_client.proofs.AgreementLemmas.{agreement}
use Rattle.cookie_client.proofs.ChangeLemmas.{fit_changes, known_changes}

-- a jar that the accepted calls made of a fresh one, and a client that read the texts of its delta
pub exchanged : (now : DateTime) (start : JarState) (before : Values) (calls : List JarCall) (p : Played) (texts : List (List ℕ))
    → start.delta ≡ empty → AllZip IsOutcome calls p.outcomes.items → p.jar ≡ after_all (changes_by calls p) start
    → AreDeltaTexts p.jar.delta texts → p.client ≡ after_texts now texts before → IsExchange now start before calls p
exchanged now start before calls p texts fresh outcomes jar are read =
    record {
      outcomes = outcomes;
      jar = jar;
      agreement = agreement now (changes_by calls p) (known_changes p.outcomes.items calls outcomes) start p.jar fresh jar before p.client texts are read;
      fit = fit_changes now p.outcomes.items calls;
    }
