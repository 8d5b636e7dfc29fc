-- Cookies whose names have a prefix (RFC 6265bis 4.1.3).
use Rattle.std.specs.Prelude.{◌≡◌, ◌++◌, Bool, true, false, Option, Some, None, codes, length, refl, take, drop, option_map, if◌then◌else◌}
use Rattle.std.specs.Str.{bytes_eq}
use Rattle.cookie_core.specs.NamePrefixes.{needs_http_only, prefix_text}
use Rattle.cookie_core.specs.Record.{Record, RawForms, CookieView}
use Rattle.cookie_core.specs.declared.enforced_prefix.EnforcedPrefix.TheVariants as enforced
use Rattle.cookie.specs.Jar.{Name, JarState, view}

-- the cookie with the prefix before its name
abbrev pub prefixed_cookie : Name → Record → Record
prefixed_cookie prefix cookie = record cookie { name = prefix ++ cookie.name }

-- the name without the prefix, where it begins with it, else the name
abbrev pub clipped_name : Name → Name → Name
clipped_name prefix name =
    if bytes_eq prefix (take (length prefix) name) then drop (length prefix) name else name

-- the cookie with that name
abbrev pub clipped_cookie : Name → Record → Record
clipped_cookie prefix cookie = record cookie { name = clipped_name prefix cookie.name }

-- what a cookie lends once it has this name, which counts as set where it is another one
abbrev pub renamed_raw : Name → CookieView → RawForms
renamed_raw name cookie =
    if bytes_eq name cookie.fields.name then cookie.raw
    else record cookie.raw { name = None }

-- the cookie as a prefix stores it: with the prefix before its name, and then conforming
abbrev pub conforming_cookie : Name → (Record → Record) → Record → Record
conforming_cookie prefix conformed cookie = conformed (prefixed_cookie prefix cookie)

-- the name and the value of a cookie
abbrev pub pair_of : Record → Name × Name
pair_of cookie = (cookie.name, cookie.value)

-- the cookie that a jar shows under a name through a prefix
abbrev pub prefixed_view : Name → JarState → Name → Option Record
prefixed_view prefix jar name = option_map (clipped_cookie prefix) (view jar (prefix ++ name))

-- ---- the laws of a prefix

-- conforming keeps the name and the value
pub record KeepsPair (conformed : Record → Record) : Type 0 where
  pub name : (cookie : Record) → (conformed cookie).name ≡ cookie.name
  pub value : (cookie : Record) → (conformed cookie).value ≡ cookie.value

-- conforming twice is conforming once
abbrev pub IsConforming : (Record → Record) → Type 0
IsConforming conformed = (cookie : Record) → conformed (conformed cookie) ≡ conformed cookie

-- ---- the two prefixes of the standard (RFC 6265bis 4.1.3.1 and 4.1.3.2)

-- what stands before the name of a cookie for secure connections
abbrev pub secure_prefix : Name
secure_prefix = prefix_text enforced.Secure

-- a cookie for secure connections
abbrev pub secure_cookie : Record → Record
secure_cookie cookie = record cookie { secure = Some true }

-- what stands before the name of a cookie that is bound to its host
abbrev pub host_prefix : Name
host_prefix = prefix_text enforced.Host

-- a cookie for secure connections, for the whole of the host that set it and for no other, and kept from scripts if its
-- name requires that
abbrev pub host_bound : Record → Record
host_bound cookie =
    record cookie {
      secure = Some true;
      path = Some (codes "/");
      domain = None;
      http_only = if needs_http_only cookie.name then Some true else cookie.http_only;
    }

-- binding it to its host twice is binding it once
pub host_bound-twice : IsConforming host_bound
host_bound-twice cookie = by (needs_http_only cookie.name)
  where
    by : (needs : Bool)
        → record (host_bound cookie) {
          http_only = if needs then Some true else if needs then Some true else cookie.http_only;
        } ≡ record (host_bound cookie) {
          http_only = if needs then Some true else cookie.http_only;
        }
    by true = refl
    by false = refl

-- what such a cookie lends: its path and its domain are no longer parts of the text that it was read from
abbrev pub host_bound_raw : CookieView → RawForms
host_bound_raw cookie = record cookie.raw { path = None; domain = None }
