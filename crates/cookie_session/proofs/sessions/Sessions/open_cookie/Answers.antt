use Rattle.std.proofs.Common.{◌≡◌, ◌↔◌, true, Some, option_map, rules, subst}
use Rattle.std.specs.Prelude.{IsTrue}
use Rattle.std.specs.String.{string_bytes}
use Rattle.cookie_session.specs.OpenedText.{text_opened_at}
use Rattle.cookie_session.specs.Session.{IsAlive, IsSessionText, SessionState, seen_at}
use Rattle.cookie_session.specs.Sessions.{session_purpose}
use Rattle.cookie_session.proofs.KeyRingLemmas.{FindsIn, found_in}
use Rattle.cookie_session.proofs.SessionLemmas.{open_right}
use Rattle.cookie_session.proofs.sessions.Sessions.open_cookie.Goals as goal

pub returns-clause-answers : goal.returns-clause-answers
returns-clause-answers c =
    let site = c.args.self.now in
    let cookie = c.args.cookie.now.fields in
    let found = c.in-Some.opened in
    let session : SessionState = c.in-Some-2.session in
    let alive = c.is_alive.result in
    let finds = subst (λ o. FindsIn (Some session_purpose) site.keys.now cookie (option_map text_opened_at o)) c.in-Some.is
    (found_in (Some session_purpose) site.keys.now cookie c.name.result.now c.value.result.now (option_map text_opened_at c.in_ok-opened.field-0) c.name.ensures c.value.ensures c.in_ok-opened.ensures) in
    let reads = λ (s : SessionState). subst (λ t. (Some session ≡ Some s) ↔ IsSessionText t s) c.as_str.ensures.value
    (subst (λ o. (o ≡ Some s) ↔ IsSessionText c.as_str.result.now s) c.in-Some-2.is (c.in_ok-session.ensures s)) in
    let lives = subst (λ n. IsTrue alive ↔ IsAlive site.lifetime site.idle n session) c.second_of.ensures.value
    (subst (λ k. IsTrue alive ↔ IsAlive site.lifetime site.idle c.second_of.result (seen_at k session)) c.seen.ensures c.is_alive.ensures) in
    let living : alive ≡ true = search rules in
    open_right site cookie c.args.now found.place (string_bytes found.value) finds session reads alive lives living
