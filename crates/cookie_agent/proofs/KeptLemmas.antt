-- What is left of different cookies.
use Rattle.std.proofs.Common.{◌≡◌, ◌||◌, not, Bool, true, false, cond, [], ◌∷◌, ◌++◌, refl, sym, ap, ◌∙◌, All}
use Rattle.std.proofs.lemmas.List.Elements.{All-head, All-tail, All-weaker}
use Rattle.std.specs.List.{filter, list_any}
use Rattle.std.specs.Prelude.{nat_lt, Option, None, Some, List, ℕ}
use Rattle.jiff.specs.Types.{DateTime}
use Rattle.cookie_browser.specs.Storage.{CookieStore, KeptView, is_same_cookie, kept_with, lasting, lasts}
use Rattle.cookie_browser.specs.Suffixes.{Rule, site_domain}
use Rattle.cookie_agent.specs.Limits.{outlasting, staying, trimmed, trimmed_sites, within_domains}
use Rattle.cookie_agent.specs.Stored.{IsApart}
use Rattle.cookie_agent.specs.declared.limits.Limits.{Limits}
use Rattle.cookie_agent.proofs.HostSetLemmas.{agree_all, narrowed}
use Rattle.cookie_agent.proofs.KeyLemmas.{itself, turned_key}
use Rattle.cookie_agent.proofs.LimitLemmas.{All-staying, apart-staying}
use Rattle.cookie_agent.proofs.PutLemmas.{apart-filter}

-- one that is the same as all of these takes their place
pub put_over : (x : KeptView) (xs : CookieStore) → All (λ c. is_same_cookie c x ≡ true) xs → kept_with x xs ≡ x ∷ []
put_over x [] all = refl
put_over x (c ∷ xs) all =
    ap (λ b. cond b (x ∷ filter (λ d. not (is_same_cookie d x)) xs) (c ∷ kept_with x xs)) (All-head (λ d. is_same_cookie d x ≡ true) c xs all)
    ∙ ap (λ l. x ∷ l) (none xs (All-tail (λ d. is_same_cookie d x ≡ true) c xs all))
  where
    none : (ys : CookieStore) → All (λ d. is_same_cookie d x ≡ true) ys → filter (λ d. not (is_same_cookie d x)) ys ≡ []
    none [] all = refl
    none (y ∷ ys) all =
        ap (λ b. cond (not b) (y ∷ filter (λ d. not (is_same_cookie d x)) ys) (filter (λ d. not (is_same_cookie d x)) ys)) (All-head (λ d. is_same_cookie d x ≡ true) y ys all)
        ∙ none ys (All-tail (λ d. is_same_cookie d x ≡ true) y ys all)

-- ---- some of different cookies

-- one of these is the same as the cookie
abbrev is_among : CookieStore → KeptView → Bool
is_among xs c = list_any (λ left. is_same_cookie left c) xs

-- the first are some of the second
abbrev AreAmong : CookieStore → CookieStore → Type 0
AreAmong xs ys = filter (is_among xs) ys ≡ xs

among-filtered : (p : KeptView → Bool) (c : KeptView) (ys : CookieStore) → is_among (filter p ys) c ≡ true → is_among ys c ≡ true
among-filtered p c [] e = e
among-filtered p c (y ∷ ys) e = by (among-filtered p c ys) (p y) e
  where
    more : (is_among (filter p ys) c ≡ true → is_among ys c ≡ true) → (b : Bool) → is_among (filter p ys) c ≡ true → b || is_among ys c ≡ true
    more rest true e = refl
    more rest false e = rest e

    either : (is_among (filter p ys) c ≡ true → is_among ys c ≡ true) → (b : Bool) → b || is_among (filter p ys) c ≡ true → b || is_among ys c ≡ true
    either rest true e = refl
    either rest false e = rest e

    by : (is_among (filter p ys) c ≡ true → is_among ys c ≡ true) → (a : Bool) → is_among (cond a (y ∷ filter p ys) (filter p ys)) c ≡ true → is_same_cookie y c || is_among ys c ≡ true
    by rest true e = either rest (is_same_cookie y c) e
    by rest false e = more rest (is_same_cookie y c) e

among_among : (xs ys zs : CookieStore) → AreAmong xs ys → AreAmong ys zs → AreAmong xs zs
among_among xs ys zs first second =
    sym (narrowed (is_among xs) (is_among ys) (λ c e. among-filtered (is_among xs) c ys (ap (λ l. is_among l c) first ∙ e)) zs)
    ∙ ap (filter (is_among xs)) second
    ∙ first

module _ (text : Option (KeptView → List ℕ)) (limit : ℕ) where
  none_same : (c : KeptView) (xs : CookieStore) → All (λ d. is_same_cookie d c ≡ false) xs → is_among xs c ≡ false
  none_same c [] all = refl
  none_same c (x ∷ xs) all =
      ap (λ b. b || is_among xs c) (All-head (λ d. is_same_cookie d c ≡ false) x xs all) ∙ none_same c xs (All-tail (λ d. is_same_cookie d c ≡ false) x xs all)

  staying_among : (before xs : CookieStore) → IsApart xs → AreAmong (staying text limit before xs) xs
  staying_among before [] apart = refl
  staying_among before (c ∷ xs) apart = by (staying_among (before ++ c ∷ []) xs apart.1) (nat_lt (outlasting text before c xs) limit)
    where
      rest : CookieStore
      rest = staying text limit (before ++ c ∷ []) xs

      others : filter (is_among (c ∷ rest)) xs ≡ filter (is_among rest) xs
      others =
          agree_all (is_among (c ∷ rest)) (is_among rest) xs
          (All-weaker (λ d. is_same_cookie d c ≡ false) (λ d. is_among (c ∷ rest) d ≡ is_among rest d) (λ d h. ap (λ b. b || is_among rest d) (turned_key c d ∙ h)) xs apart.0)

      by : AreAmong rest xs → (b : Bool) → AreAmong (cond b (c ∷ rest) rest) (c ∷ xs)
      by h true =
          ap (λ b. cond (b || is_among rest c) (c ∷ filter (is_among (c ∷ rest)) xs) (filter (is_among (c ∷ rest)) xs)) (itself c)
          ∙ ap (λ l. c ∷ l) (others ∙ h)
      by h false =
          ap (λ b. cond b (c ∷ filter (is_among rest) xs) (filter (is_among rest) xs))
          (none_same c rest (All-staying text limit (λ d. is_same_cookie d c ≡ false) (before ++ c ∷ []) xs apart.0))
          ∙ h

-- what a trim leaves
pub trimmed_as : (rules : List Rule) (limits : Limits) (now : DateTime) (store : CookieStore) → IsApart store
    → filter (λ c. list_any (λ left. is_same_cookie left c) (trimmed rules limits now store)) (lasting now store) ≡ trimmed rules limits now store
trimmed_as rules limits now store apart =
    let kept = lasting now store in
    let fewer = within_domains limits.per_domain kept in
    let least = trimmed_sites rules limits now store in
    let site : KeptView → List ℕ = λ cookie. site_domain rules cookie.domain in
    let one : IsApart kept = apart-filter (λ c. lasts c.expiry now) store apart in
    let two : IsApart fewer = apart-staying (Some (λ cookie. cookie.domain)) limits.per_domain [] kept one in
    let three : IsApart least = apart-staying (Some site) limits.per_site [] fewer two in
    among_among (trimmed rules limits now store) least kept (staying_among None limits.total [] least three)
    (among_among least fewer kept (staying_among (Some site) limits.per_site [] fewer two) (staying_among (Some (λ cookie. cookie.domain)) limits.per_domain [] kept one))
