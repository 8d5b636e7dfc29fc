-- That one site's cookies don't push out another's.
use Rattle.std.specs.Prelude.{◌≡◌, ◌≤◌, false, List, ℕ, filter, length}
use Rattle.jiff.specs.Types.{DateTime}
use Rattle.cookie_browser.specs.Request.{RequestView, is_in_domain}
use Rattle.cookie_browser.specs.Storage.{CookieStore, lasting}
use Rattle.cookie_browser.specs.Suffixes.{Rule, site_domain}
use Rattle.cookie_agent.specs.Limits.{is_of_site, trimmed, trimmed_sites}
use Rattle.cookie_agent.specs.Store.{AgentView}
use Rattle.cookie_agent.specs.declared.limits.Limits.{Limits}

-- what is left of each site is no more than the limit of all cookies
abbrev pub LeavesRoom : List Rule → Limits → DateTime → CookieStore → Type 0
LeavesRoom rules limits now store = length (trimmed_sites rules limits now store) ≤ limits.total

-- Of the cookies of each site stay those that would stay if there were no others, if all sites leave room.
abbrev pub TrimsApart : List Rule → Limits → DateTime → CookieStore → CookieStore → Type 0
TrimsApart rules limits now old new =
    LeavesRoom rules limits now old → (domain : List ℕ)
    → filter (is_of_site rules domain) new
    ≡ trimmed rules limits now (filter (is_of_site rules domain) old)

-- A response leaves the cookies of each site that its host isn't in, but for those that are expired.
abbrev pub ReadsApart : RequestView → DateTime → AgentView → AgentView → Type 0
ReadsApart request now old new =
    (domain : List ℕ) → is_in_domain request.host false (site_domain old.rules domain) ≡ false
    → filter (is_of_site old.rules domain) new.cookies
    ≡ filter (is_of_site old.rules domain) (lasting now old.cookies)
