-- A removal with another domain or path removes nothing.
use Rattle.std.proofs.Common.{◌≡◌, ℕ, ◌&&◌, not, false, cond, List, [], ◌∷◌, sym, ap, ◌∙◌, All}
use Rattle.std.proofs.lemmas.List.Elements.{All-head, All-tail, All-filter}
use Rattle.std.specs.List.{filter}
use Rattle.std.specs.Str.{bytes_eq}
use Rattle.jiff.specs.Types.{DateTime}
use Rattle.cookie_browser.specs.Request.{RequestView}
use Rattle.cookie_browser.specs.Storage.{KeptView, CookieStore, is_same_cookie, kept_after_text, kept_after_verdict, kept_with, lasts, lasting, is_sent, suits}
use Rattle.cookie_agent.specs.Sent.{seen}
use Rattle.cookie_agent.specs.Removals.{IsMissed}
use Rattle.cookie_agent.specs.Store.{AgentView, agent_after_text}
use Rattle.cookie_agent.proofs.StoreLemmas.{gives, given, onto, skips, seen-given, seen-lasting}

module _ (site : RequestView) (now : DateTime) where
  -- one that is expired, and has no place to take, is put and not seen
  put_unseen : (x : KeptView) (name : List ℕ) → gives (is_sent site now) name x ≡ false → (store : CookieStore) → All (λ c. is_same_cookie c x ≡ false) store
      → given (is_sent site now) name (kept_with x store) ≡ given (is_sent site now) name store
  put_unseen x name unseen [] all = skips (is_sent site now) name x [] unseen
  put_unseen x name unseen (c ∷ store) all =
      ap (λ b. given (is_sent site now) name (cond b (x ∷ filter (λ d. not (is_same_cookie d x)) store) (c ∷ kept_with x store))) (All-head (λ d. is_same_cookie d x ≡ false) c store all)
      ∙ onto (is_sent site now) name c (kept_with x store) store (put_unseen x name unseen store (All-tail (λ d. is_same_cookie d x ≡ false) c store all))

  pub missed : (text : List ℕ) (before : AgentView) → IsMissed site now text before (agent_after_text site now text before)
  missed text before x stored expired apart name =
      let cookies = before.cookies in
      let unseen : gives (is_sent site now) name x ≡ false = ap (λ b. (b && suits site x) && bytes_eq x.name name) expired in
      let fresh : All (λ c. is_same_cookie c x ≡ false) (lasting now cookies) = All-filter (λ c. lasts c.expiry now) (λ c. is_same_cookie c x ≡ false) cookies apart in
      let after : kept_after_text before.rules site now text cookies ≡ lasting now (kept_with x (lasting now cookies))
      = ap (λ o. kept_after_verdict now o (lasting now cookies)) stored in
      ap (λ s. seen site now s name) after
      ∙ seen-lasting site now name (kept_with x (lasting now cookies))
      ∙ seen-given site now name (kept_with x (lasting now cookies)) ∙ put_unseen x name unseen (lasting now cookies) fresh ∙ sym (seen-given site now name (lasting now cookies))
      ∙ seen-lasting site now name cookies
