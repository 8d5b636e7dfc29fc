-- What a site's server has in its jar under names with the prefix `__Host-`, once it reads an agent's header (RFC
-- 6265bis, The "__Host-" Prefix).
use Rattle.std.specs.Prelude.{◌≡◌, ◌&&◌, not, true, ℕ, Bool, List, [], ◌∷◌, All, filter, Option, Some, None, option_map, Result, Ok, Err, if◌then◌else◌}
use Rattle.std.specs.FinMap.{get}
use Rattle.std.specs.List.{list_all, list_any}
use Rattle.std.specs.Option.{option_or, option_to_list}
use Rattle.std.specs.Str.{bytes_eq}
use Rattle.jiff.specs.Types.{DateTime}
use Rattle.cookie.specs.Escapes.{is_escaped}
use Rattle.cookie.specs.Jar.{Name}
use Rattle.cookie.specs.Originals.{field_cookies, first_of_name, jar_for}
use Rattle.cookie.specs.Record.{Record}
use Rattle.cookie_browser.specs.Request.{RequestView}
use Rattle.cookie_browser.specs.Storage.{KeptView, has_host_prefix, is_same_cookie, is_sent, lasts, verdict}
use Rattle.cookie_browser.specs.declared.refusal.Refusal.{Refusal}
use Rattle.cookie_agent.specs.Histories.{Begins, Clears, Evicts, History, IsInOrder, Loading, Loads, Reads, Removes, Requests, Response, Trims, WasRead, kept_after}
use Rattle.cookie_agent.specs.Hosts.{IsUncut, is_own, own_events}
use Rattle.cookie_agent.specs.Limits.{trimmed}
use Rattle.cookie_agent.specs.Saved.{is_persistent}
use Rattle.cookie_agent.specs.SavedForms.{as_carried, carries}
use Rattle.cookie_agent.specs.Sent.{IsHeader, IsOrderedHeader, accessed, sent_pair}
use Rattle.cookie_agent.specs.Stored.{is_named_in, is_of_domain}

-- ---- what was set, whatever happened

-- One of the site's own secure responses set this cookie that a server reads.
pub record IsOwnSet (site : RequestView) (history : History) (cookie : Record) : Type 0 where
  pub response : Response
  pub read : WasRead response history
  pub own : is_own site response ≡ true
  pub kept : KeptView
  pub stored : verdict response.rules response.site response.now [] response.text ≡ Ok kept
  pub shown : field_cookies (sent_pair kept) ≡ cookie ∷ []

-- So it is of each cookie of a header whose name has the prefix, in any case, and of each such original of its jar.
pub record ReadsOwnSet (site : RequestView) (history : History) (header : List ℕ) : Type 0 where
  pub cookies : All (λ cookie. has_host_prefix cookie.name ≡ true → IsOwnSet site history cookie)
      (field_cookies header)
  pub originals : (name : Name) → has_host_prefix name ≡ true → (cookie : Record)
      → get (jar_for header).originals name ≡ Some cookie → IsOwnSet site history cookie

-- So it is of an agent's header, whatever happened to the agent, in whatever order of time.
abbrev pub AreOwnSet : Type 0
AreOwnSet =
    (history : History) (site : RequestView) (now : DateTime) (header : List ℕ)
    → IsHeader site now (kept_after history) header → ReadsOwnSet site history header

-- In the jar that a server makes of the agent's header, the original under each name with the prefix, in any case, is
-- the one that the server would have without the responses that aren't the site's own secure ones.
abbrev pub AreOwnOriginals : Type 0
AreOwnOriginals =
    (history : History) → IsUncut history
    → (site : RequestView) (now : DateTime) → IsInOrder history now
    → (header own : List ℕ)
    → IsOrderedHeader site now (kept_after history) header
    → IsOrderedHeader site now (kept_after (own_events site history)) own
    → (name : Name) → has_host_prefix name ≡ true
    → get (jar_for header).originals name ≡ get (jar_for own).originals name

-- ---- the last that was set

-- The name begins with `__Host-`, in any case, and has no byte that printing escapes.
pub record IsHostName (name : List ℕ) : Type 0 where
  pub prefixed : has_host_prefix name ≡ true
  pub plain : list_all (λ byte. not (is_escaped byte)) name ≡ true

-- the cookie, if it has the name
abbrev pub if_named : List ℕ → Result KeptView Refusal → Option KeptView
if_named name (Ok cookie) = if bytes_eq name cookie.name then Some cookie else None
if_named name (Err refusal) = None

-- the cookie of this name that the response sets, if it is one of the site's own secure ones
abbrev pub own_named : RequestView → List ℕ → Response → Option KeptView
own_named site name response =
    if is_own site response
    then if_named name (verdict response.rules response.site response.now [] response.text)
    else None

-- the cookie, if there is one and it passes the test
abbrev pub if_passing : (KeptView → Bool) → Option KeptView → Option KeptView
if_passing test None = None
if_passing test (Some cookie) = if test cookie then Some cookie else None

-- the saved cookie as it is loaded, if the form carries it, and it is persistent and not expired
abbrev pub if_loaded : Loading → Option KeptView → Option KeptView
if_loaded loading saved =
    if_passing (λ cookie. lasts cookie.expiry loading.now)
    (option_map (as_carried loading.form loading.now)
    (if_passing (λ cookie. is_persistent loading.written cookie && carries loading.form cookie)
    saved))

-- The cookie of this name that the last of the site's own secure responses stored which stored one, expired or not. None
-- is left if a removal, a clearing or a trim dropped it since. A load that brings one puts it in its place.
abbrev pub own_left : RequestView → List ℕ → History → Option KeptView
own_left site name Begins = None
own_left site name (Reads response before) =
    option_or (own_named site name response) (own_left site name before)
own_left site name (Requests other now before) =
    option_map (accessed other now) (own_left site name before)
own_left site name (Evicts now before) = own_left site name before
own_left site name (Removes removed scope before) =
    if_passing (λ cookie. not (is_named_in removed scope cookie)) (own_left site name before)
own_left site name (Clears domain before) =
    if_passing (λ cookie. not (is_of_domain domain cookie)) (own_left site name before)
own_left site name (Trims rules limits now before) =
    if_passing
    (λ cookie. list_any (λ left. is_same_cookie left cookie)
    (trimmed rules limits now (kept_after before)))
    (own_left site name before)
own_left site name (Loads loading saved before) =
    option_or (if_loaded loading (own_left site name saved)) (own_left site name before)

-- the original that a server has of a stored cookie: what it reads of it, if it is sent
abbrev pub original_of : RequestView → DateTime → Option KeptView → Option Record
original_of site now None = None
original_of site now (Some cookie) =
    if is_sent site now cookie then first_of_name cookie.name (field_cookies (sent_pair cookie))
    else None

-- A server reads this cookie under the name and no other, or none: in the header, and as an original of its jar.
pub record ReadsOnly (header : List ℕ) (name : Name) (cookie : Option Record) : Type 0 where
  pub cookies : filter (λ c. bytes_eq name c.name) (field_cookies header) ≡ option_to_list cookie
  pub original : get (jar_for header).originals name ≡ cookie

-- Under such a name a server reads exactly the last cookie that is left of the site's own secure responses, if it is
-- sent.
abbrev pub IsLastOwn : Type 0
IsLastOwn =
    (history : History) (site : RequestView) (now : DateTime) → IsInOrder history now
    → (header : List ℕ) → IsHeader site now (kept_after history) header
    → (name : Name) → IsHostName name
    → ReadsOnly header name (original_of site now (own_left site name history))
