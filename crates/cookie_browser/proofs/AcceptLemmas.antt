-- A browser stores a printed cookie.
use Rattle.std.proofs.Common.{◌≡◌, ◌&&◌, ◌||◌, not, Bool, true, false, inl, inr, List, [], None, refl, ap, sym, ◌∙◌}
use Rattle.std.proofs.lemmas.List.Elements.{All-nil, All-weaker}
use Rattle.std.proofs.lemmas.Bool.{true≢false}
use Rattle.std.proofs.lemmas.List.Folds.{list_any_none}
use Rattle.std.specs.List.{list_any}
use Rattle.std.specs.Str.{bytes_eq}
use Rattle.cookie_browser.specs.Printed.{printed_as}
use Rattle.cookie_browser.specs.PrintedStored.{IsUncovered, IsPrintedStored, printed_kept}
use Rattle.cookie_browser.specs.Received.{ReceivedView}
use Rattle.cookie_browser.specs.Request.{RequestView, is_in_domain, is_under_path}
use Rattle.cookie_browser.specs.Storage.{CookieStore, KeptView, kept_after_verdict, crosses, is_site_bound, is_overlaid, or_next_refusal, overlays, first_refusal, refusal_by_domain, refusal_by_connection, refusal_by_prefix, refused_if, lasting, unless_refused, verdict_on}
use Rattle.cookie_browser.specs.Suffixes.{Rule}
use Rattle.cookie_browser.specs.declared.refusal.Refusal.TheVariants as refusal
use Rattle.cookie_browser.proofs.PrintedLemmas.{received_printed}

and_false : (a : Bool) → a && false ≡ false
and_false true = refl
and_false false = refl

within : (a b c : Bool) → a && b ≡ false → a && (b && c) ≡ false
within true true c e = absurd (true≢false e)
within true false c e = refl
within false b c e = refl

overlays_none : (request : RequestView) (store : CookieStore) (new : KeptView) → IsUncovered request store new.name → overlays request store new ≡ false
overlays_none request store new (inl secure) = ap (λ b. not new.is_secure_only && (not b && list_any (is_overlaid request new) store)) secure ∙ and_false (not new.is_secure_only)
overlays_none request store new (inr all) =
    let none : list_any (is_overlaid request new) store ≡ false =
    list_any_none (is_overlaid request new) store
    (All-weaker (λ c. bytes_eq c.name new.name && c.is_secure_only ≡ false) (λ c. is_overlaid request new c ≡ false)
    (λ c h. within (bytes_eq c.name new.name) c.is_secure_only ((is_in_domain c.domain request.is_address new.domain || is_in_domain new.domain request.is_address c.domain) && is_under_path new.path c.path) h) store all) in
    ap (λ b. not new.is_secure_only && (not request.is_secure && b)) none ∙ ap (λ b. not new.is_secure_only && b) (and_false (not request.is_secure)) ∙ and_false (not new.is_secure_only)

-- only the step on overlaid cookies looks at the store
pub refusal_anywhere : (rules : List Rule) (request : RequestView) (store : CookieStore) (r : ReceivedView) (new : KeptView) → IsUncovered request store new.name → first_refusal rules request store r new ≡ first_refusal rules request [] r new
unfolding refusal_by_connection
refusal_anywhere rules request store r new uncovered =
    ap (λ b. or_next_refusal (refusal_by_domain rules request r)
    (or_next_refusal (refused_if (new.is_secure_only && not request.is_secure) refusal.InsecureConnection
    (refused_if b refusal.OverlaysSecure
    (refused_if (crosses request new) refusal.CrossSite
    (refused_if (not (is_site_bound new.same_site) && not new.is_secure_only) refusal.NoneWithoutSecure
    None)))) (refusal_by_prefix r new)))
    (overlays_none request store new uncovered ∙ sym (overlays_none request [] new (inr (All-nil _))))

pub printed_is_stored : IsPrintedStored
printed_is_stored rules request now store r storable uncovered =
    let new = printed_kept rules request now r in
    let left = lasting now store in
    let accepted : first_refusal rules request left (printed_as r) new ≡ None = refusal_anywhere rules request left (printed_as r) new uncovered ∙ storable.accepted in
    ap (λ o. kept_after_verdict now (verdict_on rules request now left o) left) (received_printed r storable.receivable)
    ∙ ap (λ o. kept_after_verdict now (unless_refused o new) left) accepted
