-- Cookies whose names have a prefix, at a user agent (RFC 6265bis, Cookie Name Prefixes).
use Rattle.std.specs.Prelude.{◌≡◌, ◌+◌, ◌≤◌, ◌||◌, true, false, List, [], length, Ok}
use Rattle.jiff.specs.Types.{DateTime}
use Rattle.cookie.specs.Escapes.{escape}
use Rattle.cookie.specs.Normal.{IsNamed}
use Rattle.cookie.specs.Prefixes.{conforming_cookie, host_prefix, host_bound, secure_prefix, secure_cookie}
use Rattle.cookie.specs.Record.{Record}
use Rattle.cookie.specs.Removal.{removal}
use Rattle.cookie.specs.Size.{most_bytes}
use Rattle.cookie.specs.Text.{cookie_text}
use Rattle.cookie_browser.specs.Printed.{IsReceivable}
use Rattle.cookie_browser.specs.Received.{ReceivedView, received}
use Rattle.cookie_browser.specs.Request.{RequestView}
use Rattle.cookie_browser.specs.Storage.{KeptView, verdict}
use Rattle.cookie_browser.specs.Suffixes.{Rule}
use Rattle.cookie_agent.specs.Scopes.{scope_of, host_scope}

-- The site is secure, and the request is same-site or a top-level navigation.
pub record IsAtHome (site : RequestView) : Type 0 where
  pub secure : site.is_secure ≡ true
  pub near : site.is_same_site || site.is_top_level ≡ true

-- An agent without cookies stores the cookie's text as a secure-only one, for the whole host of the site and no other.
pub record IsHostBound (rules : List Rule) (site : RequestView) (now : DateTime) (cookie : Record)
    : Type 0 where
  pub kept : KeptView
  pub stored : verdict rules site now [] (cookie_text true false cookie) ≡ Ok kept
  pub scope : scope_of kept ≡ host_scope site
  pub secure : kept.is_secure_only ≡ true

-- So it is, at a site that is at home, of what the jar with the prefix `__Host-` stores, and of what tells the agent to
-- drop it, if it isn't too long.
abbrev pub AreHostBound : List Rule → RequestView → Type 0
AreHostBound rules site =
    IsAtHome site → (now : DateTime) (cookie : Record)
    → IsNamed (conforming_cookie host_prefix host_bound cookie)
    → length (escape (conforming_cookie host_prefix host_bound cookie).name)
    + length (escape cookie.value) ≤ most_bytes
    → IsHostBound rules site now (conforming_cookie host_prefix host_bound cookie)
    × ((moment : DateTime)
    → IsHostBound rules site now
    (removal moment (conforming_cookie host_prefix host_bound cookie)))

-- The text of a cookie is received with `Secure`.
pub record IsSecured (cookie : Record) : Type 0 where
  pub read : ReceivedView
  pub is : received (cookie_text true false cookie) ≡ Ok read
  pub secure : read.attributes.secure ≡ true

-- So it is of what the jar with the prefix `__Secure-` stores, and of what tells the agent to drop it, if it is
-- receivable.
abbrev pub AreSecured : Type 0
AreSecured =
    (cookie : Record) → IsReceivable (conforming_cookie secure_prefix secure_cookie cookie)
    → IsSecured (conforming_cookie secure_prefix secure_cookie cookie)
    × ((moment : DateTime)
    → IsSecured (removal moment (conforming_cookie secure_prefix secure_cookie cookie)))
