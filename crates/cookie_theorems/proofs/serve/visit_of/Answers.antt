use Rattle.std.proofs.Common.{◌≡◌, ◌↔◌, ◌∙◌, ℕ, List, IfOk, ap, map, subst}
use Rattle.std.proofs.lemmas.Result.{IfOk-weaker}
use Rattle.cookie.specs.Record.{Record}
use Rattle.cookie_session.specs.Revocations.{IsRevoked}
use Rattle.cookie_session.specs.Session.{SessionState}
use Rattle.cookie_session.specs.Sessions.{OpensUnrevoked}
use Rattle.cookie_session.specs.Visit.{opened_visit}
use Rattle.cookie_theorems.proofs.ActLemmas.{both_ok}
use Rattle.cookie_theorems.proofs.serve.visit_of.Goals as goal

pub returns-clause-visit : goal.returns-clause-visit
returns-clause-visit g c kept =
    let set = g.R.Revocations.revoked_until c.args.revocations.now in
    let request = c.args.request.now in
    let answers = subst (λ (cookies : List Record). IfOk c.visit.result (λ visit. (place : ℕ) (s : SessionState)
    → (visit ≡ opened_visit s place) ↔ OpensUnrevoked (IsRevoked set) request.sessions cookies request.time place s))
    (ap (map (λ k. k.fields)) c.deref.ensures.value ∙ c.in_ok-cookies.ensures) (c.visit.ensures.answers kept) in
    IfOk-weaker c.visit.result _ _ (λ visit both. record { opened = both.0; started = λ none. (both.1 none).2 }) (both_ok c.visit.result _ _ answers c.visit.ensures.started)
