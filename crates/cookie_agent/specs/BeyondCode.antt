-- Mirrors private code: whether a cookie would overlay a stored one.
use Rattle.std.specs.Prelude.{◌&&◌, Bool, []}
use Rattle.std.specs.Str.{bytes_eq}
use Rattle.jiff.specs.Types.{DateTime}
use Rattle.cookie_browser.specs.Request.{RequestView}
use Rattle.cookie_browser.specs.Storage.{KeptView, is_overlaid, lasts}
use Rattle.cookie_agent.specs.Beyond.{DatedView}

-- it is neither partitioned nor expired
abbrev pub is_plain : DateTime → DatedView → Bool
is_plain now cookie = bytes_eq cookie.partition [] && lasts cookie.kept.expiry now

-- the stored cookie is neither partitioned nor expired, and is overlaid by the new one
abbrev pub is_overlaid_dated : RequestView → KeptView → DateTime → DatedView → Bool
is_overlaid_dated request new now old = is_plain now old && is_overlaid request new old.kept
