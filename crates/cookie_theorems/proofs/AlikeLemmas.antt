-- What two sites see alike.
use Rattle.std.proofs.Common.{◌≡◌, ◌&&◌, ◌||◌, not, List, ℕ, [], ◌∷◌, cond, refl, sym, ap, subst, ◌∙◌}
use Rattle.std.proofs.lemmas.List.Elements.{All-head, All-tail}
use Rattle.std.specs.Prelude.{All, IsPermutation}
use Rattle.jiff.specs.Types.{DateTime}
use Rattle.cookie.specs.Jar.{Name}
use Rattle.cookie_theorems.specs.Agreement.{IsOurs, AreAlike, PlanView}
use Rattle.cookie_agent.specs.Scopes.{reaches}
use Rattle.cookie_agent.specs.Sent.{visible, IsHeader}
use Rattle.cookie_browser.specs.Storage.{KeptView, CookieStore, allows, is_lax, is_meant_for, is_sent, is_site_bound, lasts, suits}
use Rattle.cookie_browser.specs.declared.enforcement.Enforcement.{Enforcement}
use Rattle.cookie_browser.specs.Request.{RequestView}

module _ (plans : Name → PlanView) (store : CookieStore) (site other : RequestView) (now later : DateTime) (alike : AreAlike plans store site other now later) where
  -- a request is in the scope of an own cookie as its name's plan says
  meant_alike : (c : KeptView) → IsOurs plans c → is_meant_for site c ≡ is_meant_for other c
  meant_alike c o = ap (reaches site) o.scope ∙ alike.reach o.name ∙ sym (ap (reaches other) o.scope)

  allowed_alike : (s : Enforcement) → allows site s ≡ allows other s
  allowed_alike s =
      ap (λ b. not (is_site_bound s) || (b || (is_lax s && (site.is_safe && site.is_top_level)))) alike.same_site
      ∙ ap (λ b. not (is_site_bound s) || (other.is_same_site || (is_lax s && (b && site.is_top_level)))) alike.safe
      ∙ ap (λ b. not (is_site_bound s) || (other.is_same_site || (is_lax s && (other.is_safe && b)))) alike.top_level

  one_alike : (c : KeptView) → IsOurs plans c → lasts c.expiry now ≡ lasts c.expiry later → is_sent site now c ≡ is_sent other later c
  one_alike c o age =
      ap (λ b. b && suits site c) age
      ∙ ap (λ b. lasts c.expiry later && (b && ((site.is_secure || not c.is_secure_only) && allows site c.same_site))) (meant_alike c o)
      ∙ ap (λ b. lasts c.expiry later && (is_meant_for other c && ((b || not c.is_secure_only) && allows site c.same_site))) alike.secure
      ∙ ap (λ b. lasts c.expiry later && (is_meant_for other c && ((other.is_secure || not c.is_secure_only) && b))) (allowed_alike c.same_site)

  all_alike : (cookies : CookieStore) → All (IsOurs plans) cookies → All (λ c. lasts c.expiry now ≡ lasts c.expiry later) cookies
      → visible site now cookies ≡ visible other later cookies
  all_alike [] ours ages = refl
  all_alike (c ∷ cookies) ours ages =
      ap (λ b. cond b (c ∷ visible site now cookies) (visible site now cookies))
      (one_alike c (All-head (IsOurs plans) c cookies ours) (All-head (λ d. lasts d.expiry now ≡ lasts d.expiry later) c cookies ages))
      ∙ ap (λ l. cond (is_sent other later c) (c ∷ l) l)
      (all_alike cookies (All-tail (IsOurs plans) c cookies ours) (All-tail (λ d. lasts d.expiry now ≡ lasts d.expiry later) c cookies ages))

-- a header of the one is one of the other
pub header_alike : (plans : Name → PlanView) (store : CookieStore) (site other : RequestView) (now later : DateTime) → All (IsOurs plans) store
    → AreAlike plans store site other now later → (header : List ℕ) → IsHeader other later store header → IsHeader site now store header
header_alike plans store site other now later ours alike header h =
    record {
      cookies = h.cookies;
      sent = subst (λ v. IsPermutation v h.cookies) (sym (all_alike plans store site other now later alike store ours alike.ages)) h.sent;
      text = h.text;
    }
