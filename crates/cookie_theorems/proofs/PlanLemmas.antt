-- A stored cookie is as its plan has it exactly if the tests say so.
use Rattle.std.proofs.Common.{◌≡◌, ◌≢◌, ◌&&◌, ◌||◌, ◌↔◌, not, Bool, true, false, List, [], Ok, Err, IsTrue, refl, sym, ap, ◌∙◌}
use Rattle.std.proofs.lemmas.Bool.{and_parts, false≢true}
use Rattle.std.proofs.lemmas.Slice.Eq.{bytes_eq-Decides}
use Rattle.std.specs.Str.{bytes_eq}
use Rattle.jiff.specs.Types.{DateTime}
use Rattle.cookie.specs.Jar.{Name}
use Rattle.cookie.specs.Record.{Record}
use Rattle.cookie.specs.Text.{cookie_text}
use Rattle.cookie_browser.specs.Request.{RequestView}
use Rattle.cookie_browser.specs.Storage.{KeptView, both_or_neither, is_sent, lasts, verdict}
use Rattle.cookie_browser.specs.Suffixes.{Rule}
use Rattle.cookie_browser.specs.declared.refusal.Refusal.{Refusal}
use Rattle.cookie_theorems.specs.Agreement.{IsPlanned, PlanView}
use Rattle.cookie_theorems.specs.PlannedCalls.{IsPlannedAddition, IsPlannedRemoval}
use Rattle.cookie_theorems.specs.PlanCode.{fits_plan}
use Rattle.cookie_agent.specs.Scopes.{ScopeView, scope_of}
use Rattle.cookie_agent.proofs.KeyLemmas.{flag_itself, same_flags}

both : (a b : Bool) → a ≡ true → b ≡ true → a && b ≡ true
both true b e f = f
both false b e f = absurd (false≢true e)

implied : (a b : Bool) → not a || b ≡ true → a ≡ true → b ≡ true
implied true b e f = e
implied false b e f = absurd (false≢true f)

implies : (a b : Bool) → (a ≡ true → b ≡ true) → not a || b ≡ true
implies true b h = h refl
implies false b h = refl

-- what the test says
record Fits (plan : PlanView) (site : RequestView) (kept : KeptView) : Type 0 where
  scope : scope_of kept ≡ plan.scope
  secure : kept.is_secure_only ≡ true → plan.is_secure ≡ true
  covered : plan.is_secure ≡ true → site.is_secure ≡ true

fits_told : (plan : PlanView) (site : RequestView) (kept : KeptView) → fits_plan plan site kept ≡ true → Fits plan site kept
fits_told plan site kept e =
    let late = (not kept.is_secure_only || plan.is_secure) && (not plan.is_secure || site.is_secure) in
    let one = and_parts (bytes_eq kept.domain plan.scope.domain) (both_or_neither kept.is_host_only plan.scope.is_host_only && (bytes_eq kept.path plan.scope.path && late)) e in
    let two = and_parts (both_or_neither kept.is_host_only plan.scope.is_host_only) (bytes_eq kept.path plan.scope.path && late) one.1 in
    let three = and_parts (bytes_eq kept.path plan.scope.path) late two.1 in
    let four = and_parts (not kept.is_secure_only || plan.is_secure) (not plan.is_secure || site.is_secure) three.1 in
    let at : ScopeView → ScopeView = λ s. s in
    record {
      scope = ap (λ d. at (record { domain = d; is_host_only = kept.is_host_only; path = kept.path })) ((bytes_eq-Decides kept.domain plan.scope.domain).0 one.0)
          ∙ ap (λ f. at (record { domain = plan.scope.domain; is_host_only = f; path = kept.path })) (same_flags kept.is_host_only plan.scope.is_host_only two.0)
          ∙ ap (λ p. at (record { domain = plan.scope.domain; is_host_only = plan.scope.is_host_only; path = p })) ((bytes_eq-Decides kept.path plan.scope.path).0 three.0);
      secure = implied kept.is_secure_only plan.is_secure four.0;
      covered = implied plan.is_secure site.is_secure four.1;
    }

told_fits : (plan : PlanView) (site : RequestView) (kept : KeptView) → Fits plan site kept → fits_plan plan site kept ≡ true
told_fits plan site kept h =
    let late = (not kept.is_secure_only || plan.is_secure) && (not plan.is_secure || site.is_secure) in
    let last : late ≡ true = both (not kept.is_secure_only || plan.is_secure) (not plan.is_secure || site.is_secure) (implies kept.is_secure_only plan.is_secure h.secure) (implies plan.is_secure site.is_secure h.covered) in
    both (bytes_eq kept.domain plan.scope.domain) (both_or_neither kept.is_host_only plan.scope.is_host_only && (bytes_eq kept.path plan.scope.path && late))
    ((bytes_eq-Decides kept.domain plan.scope.domain).1 (ap (λ (s : ScopeView). s.domain) h.scope))
    (both (both_or_neither kept.is_host_only plan.scope.is_host_only) (bytes_eq kept.path plan.scope.path && late)
    (ap (both_or_neither kept.is_host_only) (sym (ap (λ (s : ScopeView). s.is_host_only) h.scope)) ∙ flag_itself kept.is_host_only)
    (both (bytes_eq kept.path plan.scope.path) late ((bytes_eq-Decides kept.path plan.scope.path).1 (ap (λ (s : ScopeView). s.path) h.scope)) last))

module _ (rules : List Rule) (site : RequestView) (now : DateTime) (plan : PlanView) (cookie : Record) (plans : Name → PlanView) (at : plans cookie.name ≡ plan) where
  planned : (kept : KeptView) → verdict rules site now [] (cookie_text true false cookie) ≡ Ok kept → fits_plan plan site kept ≡ true → IsPlanned rules site now plans cookie
  planned kept stored e =
      let h = fits_told plan site kept e in
      record {
        kept = kept;
        stored = stored;
        scope = h.scope ∙ sym (ap (λ (p : PlanView). p.scope) at);
        secure = λ s. ap (λ (p : PlanView). p.is_secure) at ∙ h.secure s;
        covered = λ s. h.covered (sym (ap (λ (p : PlanView). p.is_secure) at) ∙ s);
      }

  same_kept : (kept other : KeptView) → verdict rules site now [] (cookie_text true false cookie) ≡ Ok kept → verdict rules site now [] (cookie_text true false cookie) ≡ Ok other → other ≡ kept
  same_kept kept other e f = cc

  fitting : (kept : KeptView) → verdict rules site now [] (cookie_text true false cookie) ≡ Ok kept → (is : IsPlanned rules site now plans cookie) → fits_plan plan site kept ≡ true
  fitting kept stored is =
      let same : is.kept ≡ kept = same_kept kept is.kept stored is.stored in
      told_fits plan site kept
      (record {
        scope = ap scope_of (sym same) ∙ is.scope ∙ ap (λ (p : PlanView). p.scope) at;
        secure = λ s. sym (ap (λ (p : PlanView). p.is_secure) at) ∙ is.secure (ap (λ (k : KeptView). k.is_secure_only) same ∙ s);
        covered = λ s. is.covered (ap (λ (p : PlanView). p.is_secure) at ∙ s);
      })

  pub addition_told : cookie.name ≢ [] → (kept : KeptView) → verdict rules site now [] (cookie_text true false cookie) ≡ Ok kept
      → IsTrue (fits_plan plan site kept && is_sent site now kept) ↔ IsPlannedAddition rules site now plans cookie
  unfolding planned
  addition_told named kept stored = (
    λ e.
        (let one = and_parts (fits_plan plan site kept) (is_sent site now kept) e in
        record { name = named; planned = planned kept stored one.0; sent = one.1 }),
    λ is.
        both (fits_plan plan site kept) (is_sent site now kept) (fitting kept stored is.planned)
        (ap (is_sent site now) (sym (same_kept kept is.planned.kept stored is.planned.stored)) ∙ is.sent),
  )

  pub removal_told : cookie.name ≢ [] → (kept : KeptView) → verdict rules site now [] (cookie_text true false cookie) ≡ Ok kept
      → IsTrue (fits_plan plan site kept && not (lasts kept.expiry now)) ↔ IsPlannedRemoval rules site now plans cookie
  unfolding planned
  removal_told named kept stored = (
    λ e.
        (let one = and_parts (fits_plan plan site kept) (not (lasts kept.expiry now)) e in
        record { name = named; planned = planned kept stored one.0; expired = off (lasts kept.expiry now) one.1 }),
    λ is.
        both (fits_plan plan site kept) (not (lasts kept.expiry now)) (fitting kept stored is.planned)
        (ap (λ (k : KeptView). not (lasts k.expiry now)) (sym (same_kept kept is.planned.kept stored is.planned.stored)) ∙ ap not is.expired),
  )
    where
      off : (b : Bool) → not b ≡ true → b ≡ false
      off true e = absurd (false≢true e)
      off false e = refl

  pub addition_nameless : ¬ (cookie.name ≢ []) → IsTrue false ↔ IsPlannedAddition rules site now plans cookie
  addition_nameless none = (λ f. absurd (false≢true f), λ is. absurd (none is.name))

  pub removal_nameless : ¬ (cookie.name ≢ []) → IsTrue false ↔ IsPlannedRemoval rules site now plans cookie
  removal_nameless none = (λ f. absurd (false≢true f), λ is. absurd (none is.name))

  pub addition_refused : (refusal : Refusal) → verdict rules site now [] (cookie_text true false cookie) ≡ Err refusal → IsTrue false ↔ IsPlannedAddition rules site now plans cookie
  addition_refused refusal e = (λ f. absurd (false≢true f), λ is. absurd (never refusal is.planned.kept e is.planned.stored))
    where
      never : (f : Refusal) (kept : KeptView) → verdict rules site now [] (cookie_text true false cookie) ≡ Err f → verdict rules site now [] (cookie_text true false cookie) ≡ Ok kept → ⊥
      never f kept g h = cc

  pub removal_refused : (refusal : Refusal) → verdict rules site now [] (cookie_text true false cookie) ≡ Err refusal → IsTrue false ↔ IsPlannedRemoval rules site now plans cookie
  removal_refused refusal e = (λ f. absurd (false≢true f), λ is. absurd (never refusal is.planned.kept e is.planned.stored))
    where
      never : (f : Refusal) (kept : KeptView) → verdict rules site now [] (cookie_text true false cookie) ≡ Err f → verdict rules site now [] (cookie_text true false cookie) ≡ Ok kept → ⊥
      never f kept g h = cc
