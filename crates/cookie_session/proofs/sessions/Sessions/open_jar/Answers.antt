use Rattle.std.proofs.Common.{◌≡◌, ◌↔◌, ℕ, Some, alloc_error, option_map, sym, ap, subst, ◌∙◌}
use Rattle.cookie.specs.Jar.{view}
use Rattle.cookie.specs.Memory.{Gives}
use Rattle.cookie_session.specs.Session.{SessionState}
use Rattle.cookie_session.specs.Sessions.{IsOpen}
use Rattle.cookie_session.proofs.sessions.Sessions.open_jar.Goals as goal

pub returns-in-Some-clause-answers : goal.returns-in-Some-clause-answers
returns-in-Some-clause-answers c =
    let site = c.args.self.now in
    let jar = c.args.jar.now in
    let stored : view jar site.cookie.now.fields.name ≡ Some c.in-Some.cookie.now.fields =
    ap (view jar) (sym c.name.ensures) ∙ sym c.get.ensures ∙ ap (option_map (λ k. k.now.fields)) c.in-Some.is in
    subst (λ o. Gives alloc_error c.open_cookie.result (λ answer. (place : ℕ) (s : SessionState)
    → (answer ≡ Some (record { session = s; place = place })) ↔ IsOpen site o c.args.now place s)) (sym stored) c.open_cookie.ensures.answers
