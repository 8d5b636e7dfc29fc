use Rattle.std.proofs.Common.{◌≡◌, refl, sym, ap, subst, ◌∙◌, reverse}
use Rattle.cookie.specs.History.{after_all, LooksBack, originals_of}
use Rattle.cookie.specs.Jar.{empty_jar}
use Rattle.cookie_client.specs.Calls.{changes_of}
use Rattle.cookie_client.specs.Client.{after_texts}
use Rattle.cookie_client.specs.Exchange.{changes_by}
use Rattle.cookie_client.specs.Originals.{holding, holds_originals}
use Rattle.cookie_client.specs.declared.exchange.Played.{Played}
use Rattle.cookie_client.proofs.AgreementLemmas.{holds_each}
use Rattle.cookie_client.proofs.ExchangeLemmas.{exchanged}
use Rattle.cookie_client.proofs.exchange.mirror.Goals as goal

pub returns-clause-exchange : goal.returns-clause-exchange
returns-clause-exchange c =
    let now = c.args.now in
    let calls = c.args.calls.now in
    let replayed = c.in_ok-outcomes.ensures in
    let (texts, are, read) = c.in_ok-read_delta.ensures in
    let p : Played = record { jar = c.replay_told.new.jar; client = c.read_delta.new.client; outcomes = c.in_ok-outcomes.outcomes } in
    let changes = changes_by calls p in
    let held : c.replay_told.new.client ≡ holds_originals changes = replayed.client ∙ ap (holding (originals_of changes)) c.new-client.ensures in
    exchanged now empty_jar (holds_originals changes) calls p texts refl replayed.outcomes
    (replayed.jar ∙ ap (after_all changes) c.new-jar.ensures.empty) are (read ∙ ap (after_texts now texts) held)

pub returns-clause-held : goal.returns-clause-held
returns-clause-held c =
    let p : Played = record { jar = c.replay_told.new.jar; client = c.read_delta.new.client; outcomes = c.in_ok-outcomes.outcomes } in
    holds_each c.args.now (changes_by c.args.calls.now p) p.jar (returns-clause-exchange c).jar

pub returns-clause-looks_back : goal.returns-clause-looks_back
returns-clause-looks_back c =
    let changes = changes_of c.in_ok-outcomes.outcomes.items c.args.calls.now in
    subst (LooksBack (reverse changes)) (ap (after_all changes) c.new-jar.ensures.empty ∙ sym (returns-clause-exchange c).jar) (c.new-jar.ensures.history changes)

pub returns-clause-agrees : goal.returns-clause-agrees
returns-clause-agrees c fits name unforced =
    let is = returns-clause-exchange c in
    is.agreement.agrees (is.fit fits) name (λ _. (returns-clause-held c).unforced name unforced)
