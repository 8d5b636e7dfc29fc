use Rattle.std.proofs.Common.{◌≡◌, ap, ◌∙◌}
use Rattle.cookie.specs.History.{after_all}
use Rattle.cookie.specs.Jar.{JarState, view}
use Rattle.cookie.specs.Originals.{field_cookies, jar_for, with_originals}
use Rattle.cookie_client.specs.Agreement.{value_of}
use Rattle.cookie_client.specs.Client.{after_texts}
use Rattle.cookie_client.specs.Exchange.{changes_by}
use Rattle.cookie_client.specs.Originals.{client_for}
use Rattle.cookie_client.specs.declared.exchange.Played.{Played}
use Rattle.cookie_client.proofs.ExchangeLemmas.{exchanged}
use Rattle.cookie_client.proofs.RoundLemmas.{client_shown, fresh, holds_header}
use Rattle.cookie_client.proofs.requests.visit.Goals as goal

pub returns : goal.returns
returns c =
    let now = c.args.now in
    let header = c.args.header.now in
    let calls = c.args.calls.now in
    let replayed = c.in_ok-outcomes.ensures in
    let (texts, are, read) = c.in_ok-read_delta.ensures in
    let p : Played = record { jar = c.replay.new.jar; client = c.read_delta.new.client; outcomes = c.in_ok-outcomes.outcomes } in
    let begun : c.in_ok-jar.jar ≡ jar_for header = c.in_ok-jar.ensures.made ∙ ap (with_originals (field_cookies header)) c.requires in
    let held : c.in_ok-client.client ≡ client_for header =
    client_shown (jar_for header) (client_for header) (fresh header) (holds_header header) c.in_ok-client.client (λ name. c.in_ok-client.ensures name ∙ ap (λ (j : JarState). value_of (view j name)) begun) in
    exchanged now (jar_for header) (client_for header) calls p texts (fresh header) replayed.outcomes
    (replayed.jar ∙ ap (after_all (changes_by calls p)) begun) are (read ∙ ap (after_texts now texts) held)
