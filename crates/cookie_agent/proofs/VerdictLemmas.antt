-- A browser with cookies stores what one without cookies stores, if nothing is overlaid.
use Rattle.std.proofs.Common.{◌≡◌, ℕ, true, false, List, [], Option, Some, None, Ok, Err, refl, sym, ap, subst, ◌∙◌}
use Rattle.std.specs.Prelude.{Result}
use Rattle.jiff.specs.Types.{DateTime}
use Rattle.cookie_core.specs.Escapes.{escape}
use Rattle.cookie_core.specs.Record.{Record}
use Rattle.cookie_core.specs.Text.{cookie_text}
use Rattle.cookie_browser.specs.PrintedStored.{IsUncovered}
use Rattle.cookie_browser.specs.Received.{ReceivedView, received}
use Rattle.cookie_browser.specs.Request.{RequestView}
use Rattle.cookie_browser.specs.Storage.{CookieStore, KeptView, first_refusal, kept_as, unless_refused, verdict, verdict_on}
use Rattle.cookie_browser.specs.Suffixes.{Rule}
use Rattle.cookie_browser.specs.declared.refusal.Refusal.{Refusal}
use Rattle.cookie_browser.proofs.AcceptLemmas.{refusal_anywhere}
use Rattle.cookie_agent.proofs.PairLemmas.{pair_received}

module _ (rules : List Rule) (site : RequestView) (now : DateTime) where
  -- what a verdict that stores says of the received cookie
  pub record IsStoredBy (store : CookieStore) (v : ReceivedView) (kept : KeptView) : Type 0 where
    pub accepted : first_refusal rules site store v (kept_as rules site now v) ≡ None
    pub same : kept_as rules site now v ≡ kept

  pub stored_by : (store : CookieStore) (v : ReceivedView) (kept : KeptView) → verdict_on rules site now store (Ok v) ≡ Ok kept → IsStoredBy store v kept
  stored_by store v kept e = by (first_refusal rules site store v (kept_as rules site now v)) refl e
    where
      by : (o : Option Refusal) → first_refusal rules site store v (kept_as rules site now v) ≡ o → unless_refused o (kept_as rules site now v) ≡ Ok kept → IsStoredBy store v kept
      by (Some f) is e = cc
      by None is e = record { accepted = is; same = cc }

  anywhere : (store : CookieStore) (r : Result ReceivedView Refusal) (kept : KeptView) → IsUncovered site store kept.name
      → verdict_on rules site now [] r ≡ Ok kept → verdict_on rules site now store r ≡ Ok kept
  anywhere store (Err f) kept uncovered e = e
  anywhere store (Ok v) kept uncovered e =
      let is = stored_by [] v kept e in
      let uncovered' : IsUncovered site store (kept_as rules site now v).name = subst (λ (k : KeptView). IsUncovered site store k.name) (sym is.same) uncovered in
      ap (λ o. unless_refused o (kept_as rules site now v)) (refusal_anywhere rules site store v (kept_as rules site now v) uncovered' ∙ is.accepted) ∙ ap (λ k. Ok k) is.same

  pub verdict_anywhere : (store : CookieStore) (text : List ℕ) (kept : KeptView) → IsUncovered site store kept.name
      → verdict rules site now [] text ≡ Ok kept → verdict rules site now store text ≡ Ok kept
  verdict_anywhere store text kept uncovered e = anywhere store (received text) kept uncovered e

  -- a stored cookie has the escaped name and value of the printed one
  pub record StoresPair (r : Record) (kept : KeptView) : Type 0 where
    pub name : kept.name ≡ escape r.name
    pub value : kept.value ≡ escape r.value

  pub stores_pair : (store : CookieStore) (r : Record) (kept : KeptView) → verdict rules site now store (cookie_text true false r) ≡ Ok kept → StoresPair r kept
  stores_pair store r kept e = by (received (cookie_text true false r)) refl e
    where
      by : (o : Result ReceivedView Refusal) → received (cookie_text true false r) ≡ o → verdict_on rules site now store o ≡ Ok kept → StoresPair r kept
      by (Err f) is e = cc
      by (Ok v) is e =
          let pair = pair_received r v is in
          let same = (stored_by store v kept e).same in
          record { name = sym (ap (λ (k : KeptView). k.name) same) ∙ pair.name; value = sym (ap (λ (k : KeptView). k.value) same) ∙ pair.value }
