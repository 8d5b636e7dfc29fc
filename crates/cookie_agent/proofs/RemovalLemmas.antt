-- The removal of a cookie that was stored removes it.
use Rattle.std.proofs.Common.{◌≡◌, ℕ, ◌&&◌, not, Bool, true, false, cond, List, [], ◌∷◌, Option, Some, None, Ok, refl, sym, ap, subst, ◌∙◌, All}
use Rattle.std.proofs.lemmas.List.Elements.{All-nil, All-cons, All-filter, All-weaker}
use Rattle.std.specs.List.{filter}
use Rattle.std.specs.Str.{bytes_eq}
use Rattle.jiff.specs.Types.{DateTime}
use Rattle.cookie.specs.Escapes.{escape}
use Rattle.cookie.specs.Record.{Record}
use Rattle.cookie.specs.Removal.{removal}
use Rattle.cookie_browser.specs.Printed.{IsReceivable, printed_as}
use Rattle.cookie_browser.specs.PrintedStored.{IsUncovered}
use Rattle.cookie_browser.specs.Received.{ReceivedView}
use Rattle.cookie_browser.specs.Request.{RequestView}
use Rattle.cookie_browser.specs.Storage.{CookieStore, KeptView, crosses, first_refusal, is_same_cookie, is_site_bound, kept_after_verdict, kept_as, kept_with, lasting, lasts, or_next_refusal, overlays, refusal_by_connection, refusal_by_domain, refusal_by_prefix, refused_if, unless_refused, verdict, verdict_on}
use Rattle.cookie_browser.specs.Suffixes.{Rule}
use Rattle.cookie_browser.specs.declared.refusal.Refusal.{Refusal}
use Rattle.cookie_browser.specs.declared.refusal.Refusal.TheVariants as refusal
use Rattle.cookie_browser.proofs.AcceptLemmas.{refusal_anywhere}
use Rattle.cookie_browser.proofs.PrintedLemmas.{received_printed}
use Rattle.cookie_browser.proofs.SentLemmas.{dropped}
use Rattle.cookie_agent.specs.Removals.{IsRemovedAsSet}
use Rattle.cookie_agent.specs.Store.{AgentView, agent_after_text}
use Rattle.cookie_agent.proofs.VerdictLemmas.{stored_by}
use Rattle.cookie_agent.proofs.PrefixLemmas.{named_removal, short_removal, not_empty}
use Rattle.cookie.proofs.EscapeTextLemmas.{escape_some}

-- ---- the store

-- a cookie that is expired is in no store, nor is what it replaces
none_same : (now : DateTime) (x : KeptView) → lasts x.expiry now ≡ false → (store : CookieStore) → All (λ c. is_same_cookie c x ≡ false) (lasting now (kept_with x store))
none_same now x expired [] = subst (λ b. All (λ c. is_same_cookie c x ≡ false) (cond b (x ∷ []) [])) (sym expired) (All-nil (λ c. is_same_cookie c x ≡ false))
none_same now x expired (c ∷ store) = by (none_same now x expired store) (is_same_cookie c x) refl
  where
    others : (xs : CookieStore) → All (λ d. is_same_cookie d x ≡ false) (filter (λ d. not (is_same_cookie d x)) xs)
    others [] = All-nil (λ d. is_same_cookie d x ≡ false)
    others (d ∷ xs) = put (others xs) (is_same_cookie d x) refl
      where
        put : All (λ y. is_same_cookie y x ≡ false) (filter (λ y. not (is_same_cookie y x)) xs) → (b : Bool) → is_same_cookie d x ≡ b
            → All (λ y. is_same_cookie y x ≡ false) (cond (not b) (d ∷ filter (λ y. not (is_same_cookie y x)) xs) (filter (λ y. not (is_same_cookie y x)) xs))
        put rest true e = rest
        put rest false e = All-cons (λ y. is_same_cookie y x ≡ false) d (filter (λ y. not (is_same_cookie y x)) xs) e rest

    by : All (λ d. is_same_cookie d x ≡ false) (lasting now (kept_with x store)) → (b : Bool) → is_same_cookie c x ≡ b
        → All (λ d. is_same_cookie d x ≡ false) (lasting now (cond b (x ∷ filter (λ d. not (is_same_cookie d x)) store) (c ∷ kept_with x store)))
    by rest true e =
        subst (λ b. All (λ d. is_same_cookie d x ≡ false) (cond b (x ∷ lasting now (filter (λ d. not (is_same_cookie d x)) store)) (lasting now (filter (λ d. not (is_same_cookie d x)) store)))) (sym expired)
        (All-filter (λ d. lasts d.expiry now) (λ d. is_same_cookie d x ≡ false) (filter (λ d. not (is_same_cookie d x)) store) (others store))
    by rest false e = last (lasts c.expiry now)
      where
        last : (b : Bool) → All (λ d. is_same_cookie d x ≡ false) (cond b (c ∷ lasting now (kept_with x store)) (lasting now (kept_with x store)))
        last true = All-cons (λ d. is_same_cookie d x ≡ false) c (lasting now (kept_with x store)) e rest
        last false = rest

-- ---- the refusals

-- what is accepted among stored cookies is accepted among none
accepted_on : (first : Option Refusal) (s b x n : Bool) (last : Option Refusal)
    → or_next_refusal first (or_next_refusal (refused_if s refusal.InsecureConnection (refused_if b refusal.OverlaysSecure (refused_if x refusal.CrossSite (refused_if n refusal.NoneWithoutSecure None)))) last) ≡ None
    → or_next_refusal first (or_next_refusal (refused_if s refusal.InsecureConnection (refused_if false refusal.OverlaysSecure (refused_if x refusal.CrossSite (refused_if n refusal.NoneWithoutSecure None)))) last) ≡ None
accepted_on (Some f) s b x n last e = e
accepted_on None true b x n last e = e
accepted_on None false true x n last e = cc
accepted_on None false false x n last e = e

and_false : (a : Bool) → a && false ≡ false
and_false true = refl
and_false false = refl

alone_accepted : (rules : List Rule) (site : RequestView) (store : CookieStore) (r : ReceivedView) (new : KeptView) → first_refusal rules site store r new ≡ None → first_refusal rules site [] r new ≡ None
unfolding refusal_by_connection
alone_accepted rules site store r new e =
    ap (λ b. or_next_refusal (refusal_by_domain rules site r)
    (or_next_refusal (refused_if (new.is_secure_only && not site.is_secure) refusal.InsecureConnection
    (refused_if b refusal.OverlaysSecure
    (refused_if (crosses site new) refusal.CrossSite
    (refused_if (not (is_site_bound new.same_site) && not new.is_secure_only) refusal.NoneWithoutSecure
    None)))) (refusal_by_prefix r new)))
    (ap (λ b. not new.is_secure_only && b) (and_false (not site.is_secure)) ∙ and_false (not new.is_secure_only))
    ∙ accepted_on (refusal_by_domain rules site r) (new.is_secure_only && not site.is_secure) (overlays site store new) (crosses site new) (not (is_site_bound new.same_site) && not new.is_secure_only) (refusal_by_prefix r new) e

module _ (rules : List Rule) (site : RequestView) (past now moment : DateTime) (set : Record) (named : bytes_eq (escape set.name) [] ≡ false) where
  abbrev before : KeptView
  before = kept_as rules site past (printed_as set)

  abbrev after : KeptView
  after = kept_as rules site now (printed_as (removal moment set))

  -- neither is empty, and neither has a prefix in its value, since they have a name
  pub same_refusal : first_refusal rules site [] (printed_as (removal moment set)) after ≡ first_refusal rules site [] (printed_as set) before
  unfolding refusal_by_domain refusal_by_connection refusal_by_prefix
  same_refusal = rw named refl

pub removed : (site : RequestView) (now : DateTime) (text : List ℕ) (before : AgentView) → IsRemovedAsSet site now text before (agent_after_text site now text before)
removed site now text before set moment is receivable past store kept stored uncovered =
    let rules : List Rule = before.rules in
    let r : Record = removal moment set in
    let left : CookieStore = lasting now before.cookies in
    let new : KeptView = kept_as rules site now (printed_as r) in
    let old = stored_by rules site past store (printed_as set) kept (ap (verdict_on rules site past store) (sym (received_printed set receivable)) ∙ stored) in
    let named : bytes_eq (escape set.name) [] ≡ false = not_empty (escape set.name) (escape_some set.name receivable.named.name) in
    let removable : IsReceivable r
    = record { named = named_removal moment set receivable.named; size = short_removal set.name set.value receivable.size; path = receivable.path; domain = receivable.domain } in
    let expired : lasts new.expiry now ≡ false = dropped r.max_age r.expires now refl in
    let key : (c : KeptView) → is_same_cookie c new ≡ is_same_cookie c kept = λ c. ap (is_same_cookie c) old.same in
    let uncovered_new : IsUncovered site left new.name = subst (λ (k : KeptView). IsUncovered site left k.name) (sym old.same) uncovered in
    let accepted : first_refusal rules site left (printed_as r) new ≡ None
    = refusal_anywhere rules site left (printed_as r) new uncovered_new
    ∙ same_refusal rules site past now moment set named
    ∙ alone_accepted rules site store (printed_as set) (kept_as rules site past (printed_as set)) old.accepted in
    let found : verdict rules site now left text ≡ Ok new
    = ap (verdict rules site now left) is ∙ ap (verdict_on rules site now left) (received_printed r removable) ∙ ap (λ o. unless_refused o new) accepted in
    subst (All (λ c. is_same_cookie c kept ≡ false)) (sym (ap (λ o. kept_after_verdict now o left) found))
    (All-weaker (λ c. is_same_cookie c new ≡ false) (λ c. is_same_cookie c kept ≡ false) (λ c h. sym (key c) ∙ h) (lasting now (kept_with new left)) (none_same now new expired left))
