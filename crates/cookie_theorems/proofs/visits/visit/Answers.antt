-- The header tells the jar's originals, and the agent follows what the calls made of them.
use Rattle.std.proofs.Common.{◌≡◌, ℕ, List, map, ap, ◌∙◌, string_bytes}
use Rattle.cookie.specs.History.{after_all}
use Rattle.cookie.specs.Jar.{Change, JarState}
use Rattle.cookie_client.specs.Calls.{changes_of}
use Rattle.cookie.specs.Originals.{field_cookies, jar_for, with_originals}
use Rattle.cookie_theorems.specs.Reading.{agent_after_texts}
use Rattle.cookie_theorems.proofs.VisitLemmas.{none_stored}
use Rattle.cookie_theorems.proofs.VisitedLemmas.{agrees_on, is_visited}
use Rattle.cookie_theorems.proofs.visits.visit.Goals as goal

pub returns-clause-visit : goal.returns-clause-visit
returns-clause-visit c =
    let request = c.args.request.now in
    let before = c.args.agent.now in
    let outcomes = c.in_ok-outcomes.outcomes.items in
    let changes : List Change = changes_of outcomes request.calls.now in
    let header : List ℕ = c.in_ok-header.header.items in
    let start : JarState = jar_for header in
    let jar : c.replay.new.jar ≡ after_all changes start =
    c.in_ok-outcomes.ensures.jar
    ∙ ap (after_all changes)
    (c.in_ok-jar.ensures.made ∙ ap (with_originals (field_cookies c.deref.result.now)) c.new.ensures.empty ∙ ap jar_for c.deref.ensures.value) in
    let texts : List (List ℕ) = map string_bytes c.in_ok-texts.texts.items in
    let read : c.read_texts.new.agent ≡ agent_after_texts request.site.now request.moment texts before =
    c.in_ok-read_texts.ensures
    ∙ ap (λ ts. agent_after_texts request.site.now request.moment (map string_bytes ts) c.in_ok-agent.agent) c.deref-2.ensures.value
    ∙ ap (agent_after_texts request.site.now request.moment texts) c.in_ok-agent.ensures in
    is_visited before request _
    (record {
      count = c.in_ok-outcomes.ensures.count;
      outcomes = c.in_ok-outcomes.ensures.outcomes;
      sent = c.in_ok-header.ensures.value;
      jar = jar;
      texts = texts;
      are = c.in_ok-texts.ensures.each;
      read = read;
    })

pub returns-clause-alike : goal.returns-clause-alike
returns-clause-alike c plans ours planned =
    agrees_on plans c.args.agent.now ours c.args.request.now _ (returns-clause-visit c) planned

pub returns-clause-ours : goal.returns-clause-ours
returns-clause-ours c = none_stored
