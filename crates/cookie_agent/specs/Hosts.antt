-- Who can set a cookie whose name has the prefix `__Host-` (RFC 6265bis, The "__Host-" Prefix).
use Rattle.std.specs.Prelude.{◌≡◌, ◌&&◌, Bool, filter, if◌then◌else◌}
use Rattle.std.specs.Str.{bytes_eq}
use Rattle.jiff.specs.Types.{DateTime}
use Rattle.cookie_browser.specs.Request.{RequestView}
use Rattle.cookie_browser.specs.Storage.{CookieStore, has_host_prefix}
use Rattle.cookie_agent.specs.Histories.{History, Begins, Clears, Evicts, IsInOrder, Loads, Reads, Removes, Requests, Response, Trims, kept_after}
use Rattle.cookie_agent.specs.Sent.{visible}

-- it comes from the same host over a secure connection
abbrev pub is_own : RequestView → Response → Bool
is_own site response = response.site.is_secure && bytes_eq site.host response.site.host

-- the cookies that are sent to the site, whose names have the prefix in any case
abbrev pub host_cookies : RequestView → DateTime → CookieStore → CookieStore
host_cookies site now store =
    filter (λ c. has_host_prefix c.name) (visible site now store)

-- the events without the responses that aren't the site's own secure ones
abbrev pub own_events : RequestView → History → History
own_events site Begins = Begins
own_events site (Reads response before) =
    if is_own site response then Reads response (own_events site before)
    else own_events site before
own_events site (Requests other now before) = Requests other now (own_events site before)
own_events site (Evicts now before) = Evicts now (own_events site before)
own_events site (Removes name scope before) = Removes name scope (own_events site before)
own_events site (Clears domain before) = Clears domain (own_events site before)
own_events site (Trims rules limits now before) = Trims rules limits now (own_events site before)
own_events site (Loads loading saved before) =
    Loads loading (own_events site saved) (own_events site before)

-- no event is a trim or a load
abbrev pub IsUncut : History → Type 0
IsUncut Begins = Unit {0}
IsUncut (Reads response before) = IsUncut before
IsUncut (Requests site now before) = IsUncut before
IsUncut (Evicts now before) = IsUncut before
IsUncut (Removes name scope before) = IsUncut before
IsUncut (Clears domain before) = IsUncut before
IsUncut (Trims rules limits now before) = ⊥
IsUncut (Loads loading saved before) = ⊥

-- What an agent sends to a site under such names is what it would send without the responses of other hosts, hosts
-- below it, and insecure connections.
abbrev pub AreOnlyOwn : Type 0
AreOnlyOwn =
    (history : History) → IsUncut history
    → (site : RequestView) (now : DateTime) → IsInOrder history now
    → host_cookies site now (kept_after history)
    ≡ host_cookies site now (kept_after (own_events site history))
