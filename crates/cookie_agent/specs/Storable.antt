-- Cookies that a user agent could have stored (RFC 6265bis, Storage Model). A file that someone else wrote must not
-- bring in others: a `;` in a value would be a second cookie in the next header.
use Rattle.std.specs.Prelude.{◌≡◌, ℕ, ℤ, ◌+◌, ◌-◌, ◌==◌, ◌&&◌, ◌||◌, not, nat_lt, nat_le, int_le, Bool, true, false, All, List, [], ◌∷◌, length, drop, take, codes, eqb, Option, Some, None, if◌then◌else◌}
use Rattle.std.specs.Char.{is_ascii_digit, is_ascii_lowercase}
use Rattle.std.specs.List.{ends_with, list_all, starts_with}
use Rattle.std.specs.Str.{bytes_eq}
use Rattle.jiff.specs.Types.{DateTime}
use Rattle.jiff.specs.Words.{civil_nanos}
use Rattle.cookie_core.specs.NamePrefixes.{has_any_prefix, meets_prefixes}
use Rattle.cookie_core.specs.Separators.{equals_sign, semicolon}
use Rattle.cookie_core.specs.Size.{most_bytes}
use Rattle.cookie_core.specs.Wsp.{trim_wsp}
use Rattle.cookie_core.specs.declared.guards.Guards.{Guards}
use Rattle.cookie_browser.specs.Received.{age_limit, is_control}
use Rattle.cookie_browser.specs.Request.{RequestView}
use Rattle.cookie_browser.specs.Storage.{CookieStore, KeptView, is_site_bound, seconds_after}

-- a byte that a received name or value can have: no control character but a tab, and no `;`
abbrev pub is_received_byte : ℕ → Bool
is_received_byte byte = not (is_control byte) && not (byte == semicolon)

-- a text that can be a received name or value: such bytes, and no space or tab at an end (The Set-Cookie Header Field)
abbrev pub is_received_text : List ℕ → Bool
is_received_text text = list_all is_received_byte text && bytes_eq (trim_wsp text) text

-- a name without `=`
abbrev pub lacks_equals_sign : List ℕ → Bool
lacks_equals_sign name = list_all (λ byte. not (byte == equals_sign)) name

-- the length of a name and a value that aren't both empty, nor too long
abbrev pub is_received_length : ℕ → Bool
is_received_length count = nat_lt 0 count && nat_le count most_bytes

-- a name and a value that can be received together
abbrev pub is_received_pair : List ℕ → List ℕ → Bool
is_received_pair name value =
    is_received_text name
    && (is_received_text value
    && (lacks_equals_sign name && is_received_length (length name + length value)))

-- ---- the domain: a host, as one is written in a URL (Canonicalized Host Names)

-- a letter in lower case, a digit, `-`, or `_`, which the names of many hosts have, though no label should
abbrev pub is_label_byte : ℕ → Bool
is_label_byte byte =
    is_ascii_lowercase byte || (is_ascii_digit byte || (byte == 45 || byte == 95))

-- a host name goes on with the byte: a dot ends a label, which isn't empty
abbrev pub can_follow : Bool → ℕ → Bool
can_follow is_label_due byte = if byte == 46 then not is_label_due else is_label_byte byte

-- the rest of a host name: labels with a dot between them, and maybe one after the last. A label is due at the front of
-- the name, and after a dot.
abbrev pub is_name_rest : Bool → List ℕ → Bool
is_name_rest is_label_due [] = true
is_name_rest is_label_due (byte ∷ bytes) =
    can_follow is_label_due byte && is_name_rest (byte == 46) bytes

-- a name, or an IPv4 address
abbrev pub is_host_name : List ℕ → Bool
is_host_name host = nat_lt 0 (length host) && is_name_rest true host

-- a hexadecimal digit in lower case, `:` or `.`
abbrev pub is_six_byte : ℕ → Bool
is_six_byte byte =
    is_ascii_digit byte || (nat_le 97 byte && nat_le byte 102 || (byte == 58 || byte == 46))

-- an IPv6 address in brackets
abbrev pub is_six : List ℕ → Bool
is_six host =
    nat_lt 2 (length host)
    && (starts_with eqb host (codes "[")
    && (ends_with eqb host (codes "]")
    && list_all is_six_byte (drop 1 (take (length host - 1) host))))

abbrev pub is_domain : List ℕ → Bool
is_domain domain = is_host_name domain || is_six domain

-- an attribute's value has at most this length: a longer one is passed over (The Set-Cookie Header Field)
abbrev pub is_attribute_length : ℕ → Bool
is_attribute_length count = nat_le count 1024

-- the domain is the host, or an attribute can name it
abbrev pub can_be_set : KeptView → Bool
can_be_set cookie = cookie.is_host_only || is_attribute_length (length cookie.domain)

-- ---- the path

-- neither a control character nor a space: a byte of a request's path (RFC 9112, Request Target)
abbrev pub is_request_byte : ℕ → Bool
is_request_byte byte = nat_lt 32 byte && not (byte == 127)

abbrev pub is_request_path : List ℕ → Bool
is_request_path path = starts_with eqb path (codes "/") && list_all is_request_byte path

-- the value of an attribute
abbrev pub is_path_value : List ℕ → Bool
is_path_value path =
    starts_with eqb path (codes "/")
    && (is_received_text path && is_attribute_length (length path))

-- a path that an attribute can name, or a folder of a request's path, which may have a `;` (Paths and Path-Match)
abbrev pub is_path : List ℕ → Bool
is_path path = is_path_value path || is_request_path path

-- ---- prefixes (Cookie Name Prefixes)

-- the guards that the cookie has
abbrev pub guards_of : KeptView → Guards
guards_of cookie =
    record {
      is_secure = cookie.is_secure_only;
      is_http_only = cookie.is_http_only;
      is_host_bound = cookie.is_host_only && bytes_eq cookie.path (codes "/");
    }

-- it has a name, or its value begins with no prefix
abbrev pub meets_nameless_prefix : KeptView → Bool
meets_nameless_prefix cookie = not (length cookie.name == 0) || not (has_any_prefix cookie.value)

abbrev pub meets_name_prefix : KeptView → Bool
meets_name_prefix cookie =
    meets_prefixes cookie.name (guards_of cookie) && meets_nameless_prefix cookie

-- ---- the cookie

-- `SameSite=None` requires secure-only
abbrev pub meets_same_site : KeptView → Bool
meets_same_site cookie = is_site_bound cookie.same_site || cookie.is_secure_only

-- the cookie could have been stored, whatever the public suffixes and the time are
abbrev pub is_storable : KeptView → Bool
is_storable cookie =
    is_received_pair cookie.name cookie.value
    && (is_domain cookie.domain
    && (can_be_set cookie
    && (is_path cookie.path
    && (meets_name_prefix cookie && meets_same_site cookie))))

-- ---- the times

-- the expiry is at most 400 days after the time (Cookie Lifetime Limits)
abbrev pub is_limited : DateTime → Option ℤ → Bool
is_limited now None = true
is_limited now (Some time) = int_le time (seconds_after now age_limit)

-- the expiry, cut to that
abbrev pub limited : DateTime → Option ℤ → Option ℤ
limited now expiry =
    if is_limited now expiry then expiry else Some (seconds_after now age_limit)

-- the cookie could have been stored at this time or before, whatever the public suffixes are
abbrev pub is_storable_by : DateTime → KeptView → Bool
is_storable_by now cookie =
    is_storable cookie
    && (is_limited now cookie.expiry && int_le cookie.last_access (civil_nanos now))

-- ---- requests

-- the request's host and path are as a URL has them, and a host in brackets is an IP address
pub record IsOfUrl (request : RequestView) : Type 0 where
  pub host : is_domain request.host ≡ true
  pub address : is_host_name request.host ≡ false → request.is_address ≡ true
  pub path : is_request_path request.path ≡ true

-- What a response to such a request has an agent store could have been stored, and so could the rest, if it could before.
abbrev pub StaysStorable : RequestView → DateTime → CookieStore → CookieStore → Type 0
StaysStorable request now old new =
    IsOfUrl request → All (λ cookie. is_storable_by now cookie ≡ true) old
    → All (λ cookie. is_storable_by now cookie ≡ true) new
