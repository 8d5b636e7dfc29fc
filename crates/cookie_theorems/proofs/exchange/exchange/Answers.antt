use Rattle.std.proofs.Common.{◌≡◌, ℕ, List, Err, refl, ap, ◌∙◌}
use Rattle.std.specs.FinMap.{empty}
use Rattle.std.specs.List.{AllZip}
use Rattle.jiff.specs.Types.{DateTime}
use Rattle.cookie.specs.DeltaTexts.{AreDeltaTexts}
use Rattle.cookie.specs.History.{after_all, originals_of}
use Rattle.cookie.specs.Jar.{JarState, empty_jar}
use Rattle.cookie_client.specs.Calls.{IsOutcome}
use Rattle.cookie_client.specs.Client.{Values, after_texts}
use Rattle.cookie_client.specs.Exchange.{IsExchange, changes_by}
use Rattle.cookie_client.specs.Originals.{holding, holds_originals}
use Rattle.cookie_client.specs.Session.{delta_texts}
use Rattle.cookie_client.specs.declared.call.JarCall.{JarCall}
use Rattle.cookie_client.specs.declared.exchange.Played.{Played}
use Rattle.cookie_client.proofs.EntriesLemmas.{are_texts}
use Rattle.cookie_client.proofs.ExchangeLemmas.{exchanged}
use Rattle.cookie_http.specs.Fields.{set_cookie_texts}
use Rattle.cookie_http.specs.declared.http_error.HttpError.TheVariants as refusal
use Rattle.cookie_http.proofs.ResponseLemmas.{refused_same}
use Rattle.cookie_theorems.proofs.ExchangeLemmas.{are_carried, carried}
use Rattle.cookie_theorems.proofs.exchange.exchange.Goals as goal

-- a new client that held these originals
held_new : (calls : List JarCall) (p : Played) (client fresh : Values) → fresh ≡ empty → client ≡ holding (originals_of (changes_by calls p)) fresh
    → client ≡ holds_originals (changes_by calls p)
held_new calls p client fresh none is = is ∙ ap (holding (originals_of (changes_by calls p))) none

-- the calls, and a client that read these texts of the delta
exchange_by : (now : DateTime) (calls : List JarCall) (p : Played) (texts : List (List ℕ)) (new : JarState) → new ≡ empty_jar
    → AllZip IsOutcome calls p.outcomes.items → p.jar ≡ after_all (changes_by calls p) new
    → AreDeltaTexts p.jar.delta texts → p.client ≡ after_texts now texts (holds_originals (changes_by calls p))
    → IsExchange now empty_jar (holds_originals (changes_by calls p)) calls p
exchange_by now calls p texts new start outcomes jar are read =
    let changes = changes_by calls p in
    exchanged now empty_jar (holds_originals changes) calls p texts refl outcomes (jar ∙ ap (after_all changes) start) are read

pub returns-clause-carried : goal.returns-clause-carried
returns-clause-carried c =
    let now = c.args.now in
    let calls = c.args.calls.now in
    let replayed = c.in-Ok.ensures in
    let p : Played = record { jar = c.replay_told.new.jar; client = c.carry.new.client; outcomes = c.in-Ok.outcomes } in
    let carries = c.in_ok-response.ensures.carried in
    let held : c.replay_told.new.client ≡ holds_originals (changes_by calls p) = held_new calls p c.replay_told.new.client c.new-client.result c.new-client.ensures replayed.client in
    let read : p.client ≡ after_texts now (set_cookie_texts c.in_ok-response.field-0.response) (holds_originals (changes_by calls p)) =
    carries.reads ∙ ap (after_texts now (set_cookie_texts c.in_ok-response.field-0.response)) held in
    carried now calls _
    (exchange_by now calls p (set_cookie_texts c.in_ok-response.field-0.response) c.new-jar.result c.new-jar.ensures.empty replayed.outcomes replayed.jar
    (are_carried p.jar.delta c.in_ok-response.field-0.response carries.response) read)
    (record { response = carries.response; reads = read; request = carries.request; arrived = carries.arrived })
    c.in_ok-response.ensures.shows

pub returns-in_err-response-clause-invalid : goal.returns-in_err-response-clause-invalid
returns-in_err-response-clause-invalid c invalid =
    let now = c.args.now in
    let calls = c.args.calls.now in
    let replayed = c.in-Ok.ensures in
    let jar = c.replay_told.new.jar in
    let told = after_texts now (delta_texts jar) c.replay_told.new.client in
    let p : Played = record { jar = jar; client = told; outcomes = c.in-Ok.outcomes } in
    let held : c.replay_told.new.client ≡ holds_originals (changes_by calls p) = held_new calls p c.replay_told.new.client c.new-client.result c.new-client.ensures replayed.client in
    let same = refused_same c.from_residual.result c.in_err-response.field-0.0 refusal.InvalidValue c.from_residual.ensures.1 invalid in
    let is : IsExchange now empty_jar (holds_originals (changes_by calls p)) calls p =
    exchange_by now calls p (delta_texts jar) c.new-jar.result c.new-jar.ensures.empty replayed.outcomes replayed.jar (are_texts jar) (ap (after_texts now (delta_texts jar)) held) in
    (p, is, c.carry.ensures.invalid (c.in_err-response.was ∙ ap Err same))
