-- Which cookies go if there are too many (RFC 6265bis, Storage Model, "remove excess cookies"). Of two that may both go
-- next, the one that was created first goes: the standard leaves that open. It has no limit of a site's cookies; here they
-- go in the order of a domain's.
use Rattle.std.specs.Prelude.{ℕ, ◌+◌, ◌≤◌, nat_lt, int_lt, ◌&&◌, not, Bool, true, List, [], ◌∷◌, ◌++◌, length, count_by, Option, Some, None, if◌then◌else◌}
use Rattle.std.specs.Str.{bytes_eq}
use Rattle.jiff.specs.Types.{DateTime}
use Rattle.cookie_browser.specs.Storage.{KeptView, CookieStore, both_or_neither, lasting}
use Rattle.cookie_browser.specs.Suffixes.{Rule, site_domain}
use Rattle.cookie_agent.specs.declared.limits.Limits.{Limits}

-- the other one is counted with the cookie: it has the same text, as its domain; without a text all are counted together
abbrev pub counts : Option (KeptView → List ℕ) → KeptView → KeptView → Bool
counts None cookie other = true
counts (Some text) cookie other = bytes_eq (text other) (text cookie)

-- Of a domain's or a site's cookies, those that aren't secure-only go first. Among these, and among all cookies, the one
-- with the earliest last access does.
abbrev pub goes_first : Option (KeptView → List ℕ) → KeptView → KeptView → Bool
goes_first None left right = int_lt left.last_access right.last_access
goes_first (Some text) left right =
    if both_or_neither left.is_secure_only right.is_secure_only
    then int_lt left.last_access right.last_access else right.is_secure_only

-- how many of the cookies that are counted with one outlast it, which was created after these and before those
abbrev pub outlasting : Option (KeptView → List ℕ) → CookieStore → KeptView → CookieStore → ℕ
outlasting text earlier cookie later =
    count_by (λ other. counts text cookie other && goes_first text cookie other) earlier
    + count_by (λ other. counts text cookie other && not (goes_first text other cookie)) later

-- the later ones without each that the limit or more outlast, of the cookies that are counted with it
abbrev pub staying : Option (KeptView → List ℕ) → ℕ → CookieStore → CookieStore → CookieStore
staying text limit earlier [] = []
staying text limit earlier (cookie ∷ later) =
    if nat_lt (outlasting text earlier cookie later) limit
    then cookie ∷ staying text limit (earlier ++ cookie ∷ []) later
    else staying text limit (earlier ++ cookie ∷ []) later

-- no more than the limit of each domain
abbrev pub within_domains : ℕ → CookieStore → CookieStore
within_domains limit store = staying (Some (λ cookie. cookie.domain)) limit [] store

-- no more than the limit of each site
abbrev pub within_sites : List Rule → ℕ → CookieStore → CookieStore
within_sites rules limit store =
    staying (Some (λ cookie. site_domain rules cookie.domain)) limit [] store

-- no more than the limit of all
abbrev pub within_total : ℕ → CookieStore → CookieStore
within_total limit store = staying None limit [] store

-- what is left of each site: expired cookies go first, then cookies of domains that have too many, and then cookies of
-- sites that have too many
abbrev pub trimmed_sites : List Rule → Limits → DateTime → CookieStore → CookieStore
trimmed_sites rules limits now store =
    within_sites rules limits.per_site (within_domains limits.per_domain (lasting now store))

-- what is left: then any go
abbrev pub trimmed : List Rule → Limits → DateTime → CookieStore → CookieStore
trimmed rules limits now store =
    within_total limits.total (trimmed_sites rules limits now store)

-- the cookie is of the site that the domain is in
abbrev pub is_of_site : List Rule → List ℕ → KeptView → Bool
is_of_site rules domain cookie =
    bytes_eq (site_domain rules cookie.domain) (site_domain rules domain)

-- no domain, no site and not the whole has more than its limit
pub record IsWithin (rules : List Rule) (limits : Limits) (store : CookieStore) : Type 0 where
  pub domains : (domain : List ℕ)
      → count_by (λ cookie. bytes_eq cookie.domain domain) store ≤ limits.per_domain
  pub sites : (domain : List ℕ) → count_by (is_of_site rules domain) store ≤ limits.per_site
  pub total : length store ≤ limits.total
