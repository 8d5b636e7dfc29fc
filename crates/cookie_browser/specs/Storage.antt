-- What a received cookie is stored as, or the step that refuses it (RFC 6265bis, Storage Model), and what is sent
-- (Retrieval Algorithm).
use Rattle.std.specs.Prelude.{ℕ, ℤ, pos, ◌+ℤ◌, ◌*ℤ◌, int_lt, ◌&&◌, ◌||◌, not, Bool, true, false, nat_lt, List, [], ◌∷◌, codes, eqb, filter, Option, Some, None, Result, Ok, Err, option_map, if◌then◌else◌}
use Rattle.std.specs.List.{list_all, list_any, starts_with}
use Rattle.std.specs.Str.{bytes_eq, str_to_ascii_lowercase}
use Rattle.jiff.specs.Types.{DateTime}
use Rattle.jiff.specs.Words.{civil_nanos}
use Rattle.cookie_core.specs.Record.{without_leading_dot}
use Rattle.cookie_core.specs.NamePrefixes.{has_any_prefix, has_prefix, required, unmet_prefix}
use Rattle.cookie_browser.specs.Received.{AttributesView, ReceivedView, age_limit, received}
use Rattle.cookie_browser.specs.Request.{RequestView, folder_of, is_in_domain, is_under_path}
use Rattle.cookie_browser.specs.Suffixes.{Rule, is_public_suffix}
use Rattle.cookie_browser.specs.declared.enforcement.Enforcement.{Enforcement}
use Rattle.cookie_browser.specs.declared.enforcement.Enforcement.TheVariants as enforcement
use Rattle.cookie_browser.specs.declared.refusal.Refusal.{Refusal}
use Rattle.cookie_browser.specs.declared.refusal.Refusal.TheVariants as refusal
use Rattle.cookie_core.specs.declared.enforced_prefix.EnforcedPrefix.{EnforcedPrefix}
use Rattle.cookie_core.specs.declared.enforced_prefix.EnforcedPrefix.TheVariants as enforced
use Rattle.cookie_core.specs.declared.guards.Guards.{Guards}

-- a stored cookie; its expiry and its last access are times in UTC, in nanoseconds, and one without an expiry lasts for
-- the session
pub record KeptView : Type 0 where
  pub name : List ℕ
  pub value : List ℕ
  pub domain : List ℕ
  pub is_host_only : Bool
  pub path : List ℕ
  pub is_secure_only : Bool
  pub is_http_only : Bool
  pub same_site : Enforcement
  pub expiry : Option ℤ
  pub last_access : ℤ

-- the stored cookies in the order of their creation
abbrev pub CookieStore : Type 0
CookieStore = List KeptView

-- ---- fields

-- the time that is this number of seconds after another, in nanoseconds
abbrev pub seconds_after : DateTime → ℕ → ℤ
seconds_after now seconds = civil_nanos now +ℤ pos seconds *ℤ pos 1000000000

-- the earlier of two times
abbrev pub earlier_of : ℤ → ℤ → ℤ
earlier_of left right = if int_lt left right then left else right

-- `Max-Age` goes before `Expires`, and neither is more than 400 days off (Cookie Lifetime Limits)
abbrev pub kept_until : DateTime → Option ℕ → Option DateTime → Option ℤ
kept_until now (Some age) expires = Some (seconds_after now age)
kept_until now None (Some moment) =
    Some (earlier_of (civil_nanos moment) (seconds_after now age_limit))
kept_until now None None = None

-- the value of the last `Domain`, without one leading dot, in lower case; empty if there is none (The Domain Attribute)
abbrev pub asked_domain : AttributesView → List ℕ
asked_domain attributes = str_to_ascii_lowercase (without_leading_dot attributes.domain)

-- the domain is a public suffix, and the host is a name: an IP address only matches itself (Domain Matching)
abbrev pub is_suffix_at : List Rule → RequestView → List ℕ → Bool
is_suffix_at rules request domain = not request.is_address && is_public_suffix rules domain

-- the domain is a public suffix, and not the host itself
abbrev pub is_suffix_of_others : List Rule → RequestView → List ℕ → Bool
is_suffix_of_others rules request [] = false
is_suffix_of_others rules request (byte ∷ bytes) =
    not (bytes_eq (byte ∷ bytes) request.host)
    && is_suffix_at rules request (byte ∷ bytes)

-- host-only: no domain is asked for, or one that is a public suffix
abbrev pub is_host_only : List Rule → RequestView → List ℕ → Bool
is_host_only rules request [] = true
is_host_only rules request (byte ∷ bytes) = is_suffix_at rules request (byte ∷ bytes)

-- the path that is asked for, if it begins with `/`, and else the default path of the request's (The Path Attribute)
abbrev pub path_or_folder : List ℕ → List ℕ → List ℕ
path_or_folder request path = if starts_with eqb path (codes "/") then path else folder_of request

abbrev pub asked_path : RequestView → List ℕ → List ℕ
asked_path request path = path_or_folder request.path path

-- what a received cookie is stored as
abbrev pub kept_as : List Rule → RequestView → DateTime → ReceivedView → KeptView
kept_as rules request now cookie =
    record {
      name = cookie.name;
      value = cookie.value;
      domain = if is_host_only rules request (asked_domain cookie.attributes)
          then request.host else asked_domain cookie.attributes;
      is_host_only = is_host_only rules request (asked_domain cookie.attributes);
      path = asked_path request cookie.attributes.path;
      is_secure_only = cookie.attributes.secure;
      is_http_only = cookie.attributes.http_only;
      same_site = cookie.attributes.same_site;
      expiry = kept_until now cookie.attributes.max_age cookie.attributes.expires;
      last_access = civil_nanos now;
    }

-- ---- refusals

-- the name and the value are both empty
abbrev pub is_empty_pair : ReceivedView → Bool
is_empty_pair cookie = bytes_eq cookie.name [] && bytes_eq cookie.value []

-- every byte is ASCII
abbrev pub is_ascii : List ℕ → Bool
is_ascii text = list_all (λ byte. nat_lt byte 128) text

-- a domain is asked for that the host isn't in
abbrev pub is_foreign : RequestView → List ℕ → Bool
is_foreign request [] = false
is_foreign request (byte ∷ bytes) =
    not (is_in_domain request.host request.is_address (byte ∷ bytes))

-- the stored cookie is secure-only and has the new one's name, its domain is the new one's, above it or below it, and
-- its path is the new one's or above it
abbrev pub is_overlaid : RequestView → KeptView → KeptView → Bool
is_overlaid request new old =
    bytes_eq old.name new.name
    && (old.is_secure_only
    && ((is_in_domain old.domain request.is_address new.domain
    || is_in_domain new.domain request.is_address old.domain)
    && is_under_path new.path old.path))

-- any enforcement but `None`
abbrev pub is_site_bound : Enforcement → Bool
is_site_bound enforcement.None = false
is_site_bound _ = true

-- the text begins with `__Host-`, in any ASCII case (Cookie Name Prefixes)
abbrev pub has_host_prefix : List ℕ → Bool
has_host_prefix text = has_prefix enforced.Host text

-- what the cookie has of that which prefixes require. It is host bound if it is host-only, and has a `Path` attribute
-- that comes to `/` (Cookie Name Prefixes)
abbrev pub guards_of : ReceivedView → KeptView → Guards
guards_of cookie new =
    record {
      is_secure = new.is_secure_only;
      is_http_only = new.is_http_only;
      is_host_bound = new.is_host_only
          && (cookie.attributes.has_path && bytes_eq new.path (codes "/"));
    }

-- the refusal of a cookie that lacks what the prefix requires
abbrev pub prefix_refusal : EnforcedPrefix → Refusal
prefix_refusal prefix =
    if (required prefix).is_http_only then refusal.HttpPrefix
    else if (required prefix).is_host_bound then refusal.HostPrefix
    else refusal.SecurePrefix

-- the refusal if the test holds, and else the later one
abbrev pub refused_if : Bool → Refusal → Option Refusal → Option Refusal
refused_if test refusal later = if test then Some refusal else later

-- an earlier refusal, and else the later one
abbrev pub or_next_refusal : Option Refusal → Option Refusal → Option Refusal
or_next_refusal (Some refusal) later = Some refusal
or_next_refusal None later = later

-- the steps on an empty pair and on the domain
unfoldable pub refusal_by_domain : List Rule → RequestView → ReceivedView → Option Refusal
refusal_by_domain rules request cookie =
    refused_if (is_empty_pair cookie) refusal.Empty
    (refused_if (not (is_ascii (asked_domain cookie.attributes))) refusal.NonAsciiDomain
    (refused_if (is_suffix_of_others rules request (asked_domain cookie.attributes))
    refusal.PublicSuffix
    (refused_if (is_foreign request (asked_domain cookie.attributes)) refusal.ForeignDomain
    None)))

-- it isn't secure-only, comes over an insecure connection, and would overlay a secure-only cookie
abbrev pub overlays : RequestView → CookieStore → KeptView → Bool
overlays request store new =
    not new.is_secure_only && (not request.is_secure && list_any (is_overlaid request new) store)

-- it isn't `SameSite=None`, and the request came from another site and is no top-level navigation
abbrev pub crosses : RequestView → KeptView → Bool
crosses request new =
    is_site_bound new.same_site && (not request.is_same_site && not request.is_top_level)

-- the steps on `Secure` and `SameSite`
unfoldable pub refusal_by_connection : RequestView → CookieStore → KeptView → Option Refusal
refusal_by_connection request store new =
    refused_if (new.is_secure_only && not request.is_secure) refusal.InsecureConnection
    (refused_if (overlays request store new) refusal.OverlaysSecure
    (refused_if (crosses request new) refusal.CrossSite
    (refused_if (not (is_site_bound new.same_site) && not new.is_secure_only)
    refusal.NoneWithoutSecure
    None)))

-- the steps on prefixes
unfoldable pub refusal_by_prefix : ReceivedView → KeptView → Option Refusal
refusal_by_prefix cookie new =
    or_next_refusal
    (option_map prefix_refusal (unmet_prefix cookie.name (guards_of cookie new)))
    (refused_if (bytes_eq cookie.name [] && has_any_prefix cookie.value)
    refusal.NamelessPrefix
    None)

-- the first step that refuses the cookie, if one does
abbrev pub first_refusal : List Rule → RequestView → CookieStore → ReceivedView → KeptView
    → Option Refusal
first_refusal rules request store cookie new =
    or_next_refusal (refusal_by_domain rules request cookie)
    (or_next_refusal (refusal_by_connection request store new) (refusal_by_prefix cookie new))

-- ---- the verdict

-- the refusal, if there is one, and else the cookie
abbrev pub unless_refused : Option Refusal → KeptView → Result KeptView Refusal
unless_refused (Some refusal) new = Err refusal
unless_refused None new = Ok new

-- the refusal of the received cookie, or what it is stored as
abbrev pub verdict_on : List Rule → RequestView → DateTime → CookieStore
    → Result ReceivedView Refusal → Result KeptView Refusal
verdict_on rules request now store (Err refusal) = Err refusal
verdict_on rules request now store (Ok cookie) =
    unless_refused (first_refusal rules request store cookie (kept_as rules request now cookie))
    (kept_as rules request now cookie)

-- the first step that refuses a `Set-Cookie` text, or the cookie that it is stored as
abbrev pub verdict : List Rule → RequestView → DateTime → CookieStore → List ℕ
    → Result KeptView Refusal
verdict rules request now store text = verdict_on rules request now store (received text)

-- ---- the store after a text

-- both, or neither
abbrev pub both_or_neither : Bool → Bool → Bool
both_or_neither left right = if left then right else not right

-- the same cookie: the same name, domain, host-only flag and path
abbrev pub is_same_cookie : KeptView → KeptView → Bool
is_same_cookie left right =
    bytes_eq left.name right.name
    && (bytes_eq left.domain right.domain
    && (both_or_neither left.is_host_only right.is_host_only && bytes_eq left.path right.path))

-- the expiry is after now, or there is none
abbrev pub lasts : Option ℤ → DateTime → Bool
lasts None now = true
lasts (Some expiry) now = int_lt (civil_nanos now) expiry

abbrev pub lasting : DateTime → CookieStore → CookieStore
lasting now store = filter (λ cookie. lasts cookie.expiry now) store

-- the cookie takes the place, and so the creation time, of the same cookie; else it comes last
abbrev pub kept_with : KeptView → CookieStore → CookieStore
kept_with new [] = new ∷ []
kept_with new (old ∷ store) =
    if is_same_cookie old new
    then new ∷ filter (λ cookie. not (is_same_cookie cookie new)) store
    else old ∷ kept_with new store

-- the store after the verdict on a text
abbrev pub kept_after_verdict : DateTime → Result KeptView Refusal → CookieStore → CookieStore
kept_after_verdict now (Err refusal) store = store
kept_after_verdict now (Ok new) store = lasting now (kept_with new store)

-- the store after the text; expired cookies are dropped before and after
abbrev pub kept_after_text : List Rule → RequestView → DateTime → List ℕ → CookieStore → CookieStore
kept_after_text rules request now text store =
    kept_after_verdict now (verdict rules request now (lasting now store) text) (lasting now store)

-- ---- retrieval

-- safe top-level navigations of other sites have the cookie
abbrev pub is_lax : Enforcement → Bool
is_lax enforcement.Lax = true
is_lax enforcement.Default = true
is_lax _ = false

-- the enforcement allows the cookie to be sent with the request
abbrev pub allows : RequestView → Enforcement → Bool
allows request enforce =
    not (is_site_bound enforce)
    || (request.is_same_site || (is_lax enforce && (request.is_safe && request.is_top_level)))

-- the cookie is for the request's host and path
abbrev pub is_meant_for : RequestView → KeptView → Bool
is_meant_for request cookie =
    (if cookie.is_host_only then bytes_eq request.host cookie.domain
    else is_in_domain request.host request.is_address cookie.domain)
    && is_under_path request.path cookie.path

-- the request has the cookie, if it isn't expired
abbrev pub suits : RequestView → KeptView → Bool
suits request cookie =
    is_meant_for request cookie
    && ((request.is_secure || not cookie.is_secure_only) && allows request cookie.same_site)

-- the cookie is sent with the request
abbrev pub is_sent : RequestView → DateTime → KeptView → Bool
is_sent request now cookie = lasts cookie.expiry now && suits request cookie
