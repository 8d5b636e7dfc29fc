-- A store of cookies: what is put in, removed and cleared (RFC 6265bis, Storage Model).
use Rattle.std.specs.Prelude.{◌≡◌, ◌&&◌, false, ℕ, Bool, List, [], ◌∷◌, All}
use Rattle.std.specs.Str.{bytes_eq}
use Rattle.cookie_browser.specs.Request.{is_in_domain}
use Rattle.cookie_browser.specs.Storage.{KeptView, CookieStore, both_or_neither, is_same_cookie, kept_with}
use Rattle.cookie_agent.specs.Scopes.{ScopeView}

-- no two are the same cookie
abbrev pub IsApart : CookieStore → Type 0
IsApart [] = Unit {0}
IsApart (c ∷ store) = All (λ d. is_same_cookie d c ≡ false) store × IsApart store

-- the store after each of the cookies was stored in turn
abbrev pub kept_with_each : CookieStore → CookieStore → CookieStore
kept_with_each [] store = store
kept_with_each (cookie ∷ cookies) store = kept_with_each cookies (kept_with cookie store)

-- it has this name and this scope, which only one stored cookie has
abbrev pub is_named_in : List ℕ → ScopeView → KeptView → Bool
is_named_in name scope cookie =
    bytes_eq cookie.name name
    && (bytes_eq cookie.domain scope.domain
    && (both_or_neither cookie.is_host_only scope.is_host_only
    && bytes_eq cookie.path scope.path))

-- its domain is this one, or is below it
abbrev pub is_of_domain : List ℕ → KeptView → Bool
is_of_domain domain cookie = is_in_domain cookie.domain false domain
