-- No step of a browser that refuses a cookie looks at its own expiry or last access. What it would overlay.
use Rattle.std.proofs.Common.{◌≡◌, ◌&&◌, ◌||◌, ℕ, ◌-◌, ◌<◌, Bool, true, false, cond, eqb, List, [], ◌∷◌, length, take, codes, bytes_eq, get_or, Option, None, Ok, pos, refl, ap, subst, ◌∙◌, ⊎_elim}
use Rattle.std.proofs.lemmas.Bool.{and_parts, false≢true, or_cases}
use Rattle.std.proofs.lemmas.List.{get_or_default}
use Rattle.std.proofs.lemmas.List.Folds.{list_any_at, list_any_none}
use Rattle.std.specs.List.{Contains, ends_with, list_any}
use Rattle.jiff.specs.Types.{DateTime}
use Rattle.cookie_browser.specs.Received.{ReceivedView}
use Rattle.cookie_browser.specs.Request.{RequestView, is_in_domain, is_under_path}
use Rattle.cookie_browser.specs.Storage.{CookieStore, KeptView, first_refusal, is_overlaid, kept_as, lasting, lasts, refusal_by_connection, refusal_by_prefix, unless_refused, verdict_on}
use Rattle.cookie_browser.specs.Suffixes.{Rule}
use Rattle.cookie_agent.specs.IndexCode.{is_around}
use Rattle.cookie_agent.specs.RowsCode.{Slots, has, held, slot_at}
use Rattle.cookie_agent.proofs.SlotLemmas.{at-place, has_some, none-has, some_has}
use Rattle.cookie_browser.specs.declared.refusal.Refusal.{Refusal}

-- a test of those that last
pub any_lasting : (now : DateTime) (p : KeptView → Bool) (xs : CookieStore) → list_any p (lasting now xs) ≡ list_any (λ x. lasts x.expiry now && p x) xs
any_lasting now p [] = refl
any_lasting now p (x ∷ xs) = by (lasts x.expiry now) (any_lasting now p xs)
  where
    by : (b : Bool) → list_any p (lasting now xs) ≡ list_any (λ y. lasts y.expiry now && p y) xs
        → list_any p (cond b (x ∷ lasting now xs) (lasting now xs)) ≡ (b && p x || list_any (λ y. lasts y.expiry now && p y) xs)
    by true rest = ap (λ r. p x || r) rest
    by false rest = rest

refusal_timeless : (rules : List Rule) (site : RequestView) (store : CookieStore) (r : ReceivedView) (new : KeptView)
    → first_refusal rules site store r (record new { expiry = None; last_access = pos 0 }) ≡ first_refusal rules site store r new
unfolding refusal_by_connection refusal_by_prefix
refusal_timeless rules site store r new = refl

-- the verdict by the refusal of the cookie without its times
pub verdict_by : (rules codes : List Rule) (site request : RequestView) (now : DateTime) (store : CookieStore) (r : ReceivedView) (kept : KeptView) (o : Option Refusal)
    → codes ≡ rules → request ≡ site → kept ≡ record (kept_as codes request now r) { expiry = None; last_access = pos 0 } → o ≡ first_refusal codes request store r kept
    → unless_refused o (kept_as rules site now r) ≡ verdict_on rules site now store (Ok r)
verdict_by rules codes site request now store r kept o by_rules at is found =
    let new : kept ≡ record (kept_as rules site now r) { expiry = None; last_access = pos 0 }
    = is ∙ ap (λ c. record (kept_as c request now r) { expiry = None; last_access = pos 0 }) by_rules
    ∙ ap (λ s. record (kept_as rules s now r) { expiry = None; last_access = pos 0 }) at in
    ap (λ p. unless_refused p (kept_as rules site now r))
    (found
    ∙ ap (λ c. first_refusal c request store r kept) by_rules
    ∙ ap (λ s. first_refusal rules s store r kept) at
    ∙ ap (first_refusal rules site store r) new
    ∙ refusal_timeless rules site store r (kept_as rules site now r))

-- ---- what would be overlaid

in_domain-name : (host domain : List ℕ) (address : Bool) → is_in_domain host address domain ≡ true → is_in_domain host false domain ≡ true
in_domain-name host domain false e = e
in_domain-name host domain true e =
    ⊎_elim (λ same. ap (λ b. b || (ends_with eqb host domain && ends_with eqb (take (length host - length domain) host) (codes "."))) same) (λ none. absurd (false≢true none))
    (or_cases (bytes_eq host domain) false e)

-- its domain is the new one's, above it or below it
pub overlaid-around : (request : RequestView) (new old : KeptView) → is_overlaid request new old ≡ true → is_around new.domain old.domain ≡ true
overlaid-around request new old e =
    let address = request.is_address in
    let under = is_under_path new.path old.path in
    let domains = is_in_domain old.domain address new.domain || is_in_domain new.domain address old.domain in
    let named = and_parts (bytes_eq old.name new.name) (old.is_secure_only && (domains && under)) e in
    let secure = and_parts old.is_secure_only (domains && under) named.1 in
    let near = (and_parts domains under secure.1).0 in
    ⊎_elim
    (λ below. or_second (is_in_domain new.domain false old.domain) (is_in_domain old.domain false new.domain) (in_domain-name old.domain new.domain address below))
    (λ above. ap (λ b. b || is_in_domain old.domain false new.domain) (in_domain-name new.domain old.domain address above))
    (or_cases (is_in_domain old.domain address new.domain) (is_in_domain new.domain address old.domain) near)
  where
    or_second : (a b : Bool) → b ≡ true → (a || b) ≡ true
    or_second true b t = refl
    or_second false b t = t

-- one slot's cookie passes, and isn't expired
pub one_passes : (test : KeptView → Bool) (slots : Slots) (p : ℕ) → has test (slot_at slots p) ≡ true → list_any test (held slots) ≡ true
one_passes test slots p e =
    let found = has_some test (slot_at slots p) e in
    let at = at-place slots p found.0 found.1 in
    list_any_at test (held slots) at.place found.0 at.below (ap test (at.at found.0) ∙ found.2)

-- none does, if those that may are in these slots, where none does
pub none_pass : (test near : KeptView → Bool) (slots : Slots) (places : List ℕ) → ((c : KeptView) → test c ≡ true → near c ≡ true)
    → ((p : ℕ) → has near (slot_at slots p) ≡ true → Contains places p)
    → ((k : ℕ) → k < length places → has test (slot_at slots (get_or places k 0)) ≡ false) → list_any test (held slots) ≡ false
none_pass test near slots places is_near found none = list_any_none test (held slots) (none-has test slots (λ p. by p (has test (slot_at slots p)) refl))
  where
    by : (p : ℕ) (b : Bool) → has test (slot_at slots p) ≡ b → has test (slot_at slots p) ≡ false
    by p false e = e
    by p true e =
        let cookie = has_some test (slot_at slots p) e in
        let at = found p (some_has near (slot_at slots p) cookie.0 cookie.1 ∙ is_near cookie.0 cookie.2) in
        let place : get_or places at.0 0 ≡ p = get_or_default places at.0 0 p at.1 ∙ at.2 in
        subst (λ q. has test (slot_at slots q) ≡ false) place (none at.0 at.1)
