use Rattle.std.proofs.Common.{rules, List, Option, None, Some, ap, inr, map, refl, subst, ◌∙◌}
use Rattle.cookie.specs.Originals.{field_cookies}
use Rattle.cookie.specs.Record.{Record}
use Rattle.cookie_session.specs.declared.opened.Opened.{Opened}
use Rattle.cookie_c.specs.OpenedSessions.{session_of}
use Rattle.cookie_c.proofs.OpenLemmas.{Finds, opening_none, opening_put}
use Rattle.cookie_c.proofs.SiteLemmas.{at_second}
use Rattle.cookie_c.proofs.sessions.open.open_at.Goals as goal

pub returns-in-Ok-Some : goal.returns-in-Ok-Some
returns-in-Ok-Some c =
    let site = c.sessions-sessions.result in
    let time = c.in-Some.time in
    let is = c.in-Ok-Some.ensures in
    let finds : Finds site (field_cookies c.args.header.now) time (Some c.in-Ok-Some.opened) =
    subst (λ (answer : Option Opened). Finds site (field_cookies c.args.header.now) time answer) c.in-Ok-Some.field-0-is (
    subst (λ (cookies : List Record). Finds site cookies time c.in-Ok-Some.field-0)
    (ap (map (λ k. k.fields)) c.deref.ensures.value ∙ c.in-Ok.ensures) (record {
      exact = is.answers;
      once = is.once;
      first = is.first;
    })) in
    at_second _ _ _ time c.in-Some.ensures
    (site, c.sessions-sessions.ensures, opening_put site (field_cookies c.args.header.now) time c.in-Ok-Some.opened c.set.result (session_of c.args.session.now) (session_of (record { handle = c.set.new.self })) finds (search rules))

pub returns-in-Ok-None : goal.returns-in-Ok-None
returns-in-Ok-None c =
    let site = c.sessions-sessions.result in
    let time = c.in-Some.time in
    let is = c.in-Ok-None.ensures in
    let finds : Finds site (field_cookies c.args.header.now) time None =
    subst (λ (answer : Option Opened). Finds site (field_cookies c.args.header.now) time answer) c.in-Ok-None.field-0-is (
    subst (λ (cookies : List Record). Finds site cookies time c.in-Ok-None.field-0)
    (ap (map (λ k. k.fields)) c.deref.ensures.value ∙ c.in-Ok.ensures) (record {
      exact = is.answers;
      once = is.once;
      first = is.first;
    })) in
    at_second _ _ _ time c.in-Some.ensures
    (site, c.sessions-sessions.ensures, opening_none site (field_cookies c.args.header.now) time _ _ _ finds (refl, refl))

pub returns : goal.returns
returns c = at_second _ _ _ c.in-Some.time c.in-Some.ensures (c.sessions-sessions.result, c.sessions-sessions.ensures, inr (refl, refl))

pub returns-in_default-field_cookies : goal.returns-in_default-field_cookies
returns-in_default-field_cookies c = at_second _ _ _ c.in-Some.time c.in-Some.ensures (c.sessions-sessions.result, c.sessions-sessions.ensures, inr (refl, refl))
