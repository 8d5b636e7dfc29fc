-- The visit of a session that was found, and of none.
use Rattle.std.proofs.Common.{◌≡◌, ◌↔◌, ◌==◌, ℕ, Bool, true, List, [], length, Option, Some, sym, ap, ◌∙◌}
use Rattle.std.proofs.lemmas.Bool.Decides.{Decides-eqb}
use Rattle.std.proofs.lemmas.List.{nil_from_length}
use Rattle.std.proofs.lemmas.Option.{same_Some}
use Rattle.cookie_session.specs.Session.{SessionState}
use Rattle.cookie_session.specs.Visit.{VisitState, opened_visit}
use Rattle.cookie_session.specs.declared.opened.Opened.{Opened}
use Rattle.cookie_session.proofs.SessionLemmas.{opened}

-- two visits of found sessions are the same exactly if the sessions and the places of their keys are
pub same_visit : (o : Opened) (s : SessionState) (place : ℕ)
    → (opened_visit o.session o.place ≡ opened_visit s place) ↔ (◌≡◌ {A = Option Opened} (Some o) (Some (opened s place)))
same_visit o s place = (
  λ e.
      let at : o.place ≡ place = same_Some o.place place (ap (λ (v : VisitState). v.place) e) in
      ap (λ (x : SessionState). Some (opened x o.place)) (ap (λ (v : VisitState). v.session) e) ∙ ap (λ (n : ℕ). Some (opened s n)) at,
  λ e. ap (λ (x : Opened). opened_visit x.session x.place) (same_Some o (opened s place) e),
)

-- a list is empty exactly if its length is 0
pub is_none : {X : Type 0} (all : List X) (n : ℕ) (test : Bool) → n ≡ length all → test ≡ (n == 0) → test ≡ true → all ≡ []
is_none all n test is tests holds = nil_from_length all (sym is ∙ (Decides-eqb n 0).0 (sym tests ∙ holds))

pub is_some : {X : Type 0} (all : List X) (n : ℕ) (test : Bool) → n ≡ length all → test ≡ (n == 0) → all ≡ [] → test ≡ true
is_some all n test is tests empty = tests ∙ (Decides-eqb n 0).1 (is ∙ ap length empty)
