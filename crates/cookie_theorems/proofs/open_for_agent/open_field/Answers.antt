use Rattle.std.proofs.Common.{◌≡◌, ◌↔◌, ℕ, List, Some, IfOk, alloc_error, ap, map, subst, ◌∙◌}
use Rattle.cookie.specs.Memory.{Gives}
use Rattle.cookie.specs.Record.{Record}
use Rattle.cookie_session.specs.Session.{SessionState}
use Rattle.cookie_session.specs.Sessions.{HoldsOne, OpensFirst}
use Rattle.cookie_session.proofs.SessionLemmas.{opened}
use Rattle.cookie_theorems.proofs.open_for_agent.open_field.Goals as goal

pub returns-clause-answers : goal.returns-clause-answers
returns-clause-answers c =
    subst (λ (cookies : List Record). Gives alloc_error c.open.result (λ answer. (place : ℕ) (s : SessionState)
    → (answer ≡ Some (opened s place)) ↔ OpensFirst c.args.sessions.now cookies c.args.now place s))
    (ap (map (λ k. k.fields)) c.deref.ensures.value ∙ c.in_ok-cookies.ensures) c.open.ensures.answers

pub returns-clause-once : goal.returns-clause-once
returns-clause-once c =
    subst (λ (cookies : List Record). IfOk c.open.result (λ _. (place : ℕ) (s : SessionState)
    (first : OpensFirst c.args.sessions.now cookies c.args.now place s) → HoldsOne c.args.sessions.now (Some first.cookie)))
    (ap (map (λ k. k.fields)) c.deref.ensures.value ∙ c.in_ok-cookies.ensures) c.open.ensures.once
