-- Why a stored cookie isn't sent (RFC 6265bis, Retrieval Algorithm).
use Rattle.std.specs.Prelude.{◌≡◌, ◌&&◌, not, Bool, List, [], ◌∷◌, if◌then◌else◌}
use Rattle.std.specs.List.{list_any}
use Rattle.std.specs.Str.{bytes_eq}
use Rattle.jiff.specs.Types.{DateTime}
use Rattle.cookie_browser.specs.Request.{RequestView, is_in_domain, is_under_path}
use Rattle.cookie_browser.specs.Storage.{KeptView, allows, is_sent, lasts}
use Rattle.cookie_agent.specs.declared.obstacle.Obstacle.{Obstacle}
use Rattle.cookie_agent.specs.declared.obstacle.Obstacle.TheVariants.{Expired, Host, Path, Connection, SameSite}

-- the cookie is for the request's host
abbrev pub has_host : RequestView → KeptView → Bool
has_host request cookie =
    if cookie.is_host_only then bytes_eq request.host cookie.domain
    else is_in_domain request.host request.is_address cookie.domain

-- whether the obstacle keeps the cookie from being sent: the cookie fails this condition of the algorithm
abbrev pub keeps : Obstacle → RequestView → DateTime → KeptView → Bool
keeps Expired request now cookie = not (lasts cookie.expiry now)
keeps Host request now cookie = not (has_host request cookie)
keeps Path request now cookie = not (is_under_path request.path cookie.path)
keeps Connection request now cookie = cookie.is_secure_only && not request.is_secure
keeps SameSite request now cookie = not (allows request cookie.same_site)

-- all obstacles
abbrev pub obstacles : List Obstacle
obstacles = Expired ∷ Host ∷ Path ∷ Connection ∷ SameSite ∷ []

-- a cookie is sent exactly if no obstacle keeps it
abbrev pub IsExhaustive : Type 0
IsExhaustive =
    (request : RequestView) (now : DateTime) (cookie : KeptView)
    → is_sent request now cookie
    ≡ not (list_any (λ obstacle. keeps obstacle request now cookie) obstacles)
