use Rattle.std.proofs.Common.{◌≡◌, ◌↔◌, ℕ, List, Some, IfOk, ap, map, subst, ◌∙◌}
use Rattle.cookie.specs.Record.{Record}
use Rattle.cookie_session.specs.Revocations.{IsRevoked}
use Rattle.cookie_session.specs.Session.{SessionState}
use Rattle.cookie_session.specs.Sessions.{OpensOne, OpensUnrevoked}
use Rattle.cookie_session.proofs.SessionLemmas.{opened}
use Rattle.cookie_theorems.proofs.revoke_and_open.open_request.Goals as goal

pub returns-clause-answers : goal.returns-clause-answers
returns-clause-answers g c kept =
    subst (λ (cookies : List Record). IfOk c.open_unrevoked.result (λ answer. (place : ℕ) (s : SessionState)
    → (answer ≡ Some (opened s place)) ↔ OpensUnrevoked (IsRevoked (g.R.Revocations.revoked_until c.args.revocations.now)) c.args.request.now.sessions cookies c.args.request.now.time place s))
    (ap (map (λ k. k.fields)) c.deref.ensures.value ∙ c.in_ok-cookies.ensures) (c.open_unrevoked.ensures.answers kept)

pub returns-clause-sealed : goal.returns-clause-sealed
returns-clause-sealed g c =
    subst (λ (cookies : List Record). IfOk c.open_unrevoked.result (λ answer. (place : ℕ) (s : SessionState)
    → answer ≡ Some (opened s place) → OpensOne c.args.request.now.sessions cookies c.args.request.now.time place s))
    (ap (map (λ k. k.fields)) c.deref.ensures.value ∙ c.in_ok-cookies.ensures) c.open_unrevoked.ensures.sealed
