-- Where a cookie is sent.
use Rattle.std.specs.Prelude.{ℕ, ◌&&◌, true, Bool, List, codes, if◌then◌else◌}
use Rattle.std.specs.Str.{bytes_eq}
use Rattle.cookie_browser.specs.Request.{RequestView, is_in_domain, is_under_path}
use Rattle.cookie_browser.specs.Storage.{KeptView}

-- the host that the domain is, or each host in the domain, at the paths that are under the path
pub record ScopeView : Type 0 where
  pub domain : List ℕ
  pub is_host_only : Bool
  pub path : List ℕ

-- the scope of a stored cookie
abbrev pub scope_of : KeptView → ScopeView
scope_of cookie =
    record { domain = cookie.domain; is_host_only = cookie.is_host_only; path = cookie.path }

-- the whole host of a site, and no other
abbrev pub host_scope : RequestView → ScopeView
host_scope site = record { domain = site.host; is_host_only = true; path = codes "/" }

-- the request is in the scope (RFC 6265bis, Retrieval Algorithm)
abbrev pub reaches : RequestView → ScopeView → Bool
reaches site scope =
    (if scope.is_host_only then bytes_eq site.host scope.domain
    else is_in_domain site.host site.is_address scope.domain)
    && is_under_path site.path scope.path
