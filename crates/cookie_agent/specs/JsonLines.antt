-- Stored cookies as JSON lines: a cookie is an object (RFC 8259) on a line of its own, with every field of it.
use Rattle.std.specs.Prelude.{ℕ, ℤ, ◌^◌, ◌&&◌, pos, neg_ℤ, int_le, int_lt, nat_lt, Bool, false, List, [], ◌∷◌, ◌++◌, codes, Option, Some, None, option_and_then, if◌then◌else◌}
use Rattle.std.specs.List.{list_all}
use Rattle.std.specs.Str.{bytes_eq, chars, encode_utf8_all, is_utf8}
use Rattle.jiff.specs.Types.{DateTime}
use Rattle.jiff.specs.Words.{civil_nanos}
use Rattle.serde_json.specs.Data.{Data, boolean, member, no_members, number, object, string}
use Rattle.serde_json.specs.Find.{as_bool, as_i64, as_number, as_str, get, of_integer}
use Rattle.serde_json.specs.Read.{read}
use Rattle.serde_json.specs.Written.{compact_text}
use Rattle.cookie_browser.specs.Storage.{KeptView, earlier_of}
use Rattle.cookie_browser.specs.declared.enforcement.Enforcement.{Enforcement}
use Rattle.cookie_browser.specs.declared.enforcement.Enforcement.TheVariants as enforcement
use Rattle.cookie_agent.specs.Storable.{is_storable, limited}
use Rattle.cookie_agent.specs.declared.saved.json_lines.Flags.{Flags}
use Rattle.cookie_agent.specs.declared.saved.json_lines.Times.{Times}
use Rattle.cookie_agent.specs.declared.saved.line.Line.{Line}
use Rattle.cookie_agent.specs.declared.saved.line.Line.TheVariants as line

-- ---- what is written

-- bytes as a JSON string: each byte is the character of its number (isomorphic decoding, WHATWG Infra), so ASCII stays
-- as it is
abbrev pub text_data : List ℕ → Data
text_data bytes = string (encode_utf8_all bytes)

abbrev pub enforcement_word : Enforcement → List ℕ
enforcement_word enforcement.Default = codes "default"
enforcement_word enforcement.Strict = codes "strict"
enforcement_word enforcement.Lax = codes "lax"
enforcement_word enforcement.None = codes "none"

-- a time in nanoseconds since 1970 in UTC
abbrev pub time_data : ℤ → Data
time_data time = number (of_integer time)

-- the object of a cookie, with its expiry
abbrev pub cookie_data : KeptView → ℤ → Data
cookie_data cookie expiry =
    object
    (member (codes "domain") (text_data cookie.domain)
    (member (codes "expiry") (time_data expiry)
    (member (codes "host_only") (boolean cookie.is_host_only)
    (member (codes "http_only") (boolean cookie.is_http_only)
    (member (codes "last_access") (time_data cookie.last_access)
    (member (codes "name") (text_data cookie.name)
    (member (codes "path") (text_data cookie.path)
    (member (codes "same_site") (string (enforcement_word cookie.same_site))
    (member (codes "secure") (boolean cookie.is_secure_only)
    (member (codes "value") (text_data cookie.value)
    no_members))))))))))

-- the line, with its line feed
abbrev pub json_line_at : KeptView → Option ℤ → List ℕ
json_line_at cookie None = []
json_line_at cookie (Some expiry) = compact_text (cookie_data cookie expiry) ++ 10 ∷ []

abbrev pub json_line : KeptView → List ℕ
json_line cookie = json_line_at cookie cookie.expiry

-- the time is from the year 1677 to the year 2262, so that an `i64` has its nanoseconds
abbrev pub is_json_time : ℤ → Bool
is_json_time time = int_le (neg_ℤ (pos (2 ^ 63))) time && int_lt time (pos (2 ^ 63))

abbrev pub is_json_expiry : Option ℤ → Bool
is_json_expiry None = false
is_json_expiry (Some time) = is_json_time time

-- a cookie that a user agent could store, with such times
abbrev pub is_json_carried : KeptView → Bool
is_json_carried cookie =
    is_storable cookie && (is_json_expiry cookie.expiry && is_json_time cookie.last_access)

-- ---- what is read

-- a letter whose number is a byte
abbrev pub is_byte : ℕ → Bool
is_byte letter = nat_lt letter 256

-- the bytes of a string of characters that are bytes
abbrev pub bytes_of : List ℕ → Option (List ℕ)
bytes_of text = if list_all is_byte (chars text) then Some (chars text) else None

abbrev pub enforcement_of_word : List ℕ → Option Enforcement
enforcement_of_word text =
    if bytes_eq text (codes "default") then Some enforcement.Default
    else if bytes_eq text (codes "strict") then Some enforcement.Strict
    else if bytes_eq text (codes "lax") then Some enforcement.Lax
    else if bytes_eq text (codes "none") then Some enforcement.None else None

-- the members of an object, by their names

abbrev pub bytes_at : List ℕ → Data → Option (List ℕ)
bytes_at key value = option_and_then bytes_of (option_and_then as_str (get key value))

abbrev pub flag_at : List ℕ → Data → Option Bool
flag_at key value = option_and_then as_bool (get key value)

abbrev pub enforcement_at : List ℕ → Data → Option Enforcement
enforcement_at key value =
    option_and_then enforcement_of_word (option_and_then as_str (get key value))

abbrev pub time_at : List ℕ → Data → Option ℤ
time_at key value = option_and_then as_i64 (option_and_then as_number (get key value))

-- the texts of an object, if all are there
pub record Texts : Type 0 where
  pub name : List ℕ
  pub value : List ℕ
  pub domain : List ℕ
  pub path : List ℕ

abbrev pub texts_with : Option (List ℕ) → Option (List ℕ) → Option (List ℕ) → Option (List ℕ)
    → Option Texts
texts_with (Some name) (Some value) (Some domain) (Some path) =
    Some (record { name = name; value = value; domain = domain; path = path })
texts_with _ _ _ _ = None

abbrev pub texts_of : Data → Option Texts
texts_of value =
    texts_with (bytes_at (codes "name") value) (bytes_at (codes "value") value)
    (bytes_at (codes "domain") value) (bytes_at (codes "path") value)

-- the times, if both are there
abbrev pub times_with : Option ℤ → Option ℤ → Option Times
times_with (Some expiry) (Some last_access) =
    Some (record { expiry = expiry; last_access = last_access })
times_with _ _ = None

abbrev pub times_of : Data → Option Times
times_of value = times_with (time_at (codes "expiry") value) (time_at (codes "last_access") value)

-- the flags, if all are there
abbrev pub flags_with : Option Bool → Option Bool → Option Bool → Option Enforcement → Option Flags
flags_with (Some host_only) (Some secure) (Some http_only) (Some same_site) =
    Some (record {
      is_host_only = host_only;
      is_secure_only = secure;
      is_http_only = http_only;
      same_site = same_site;
    })
flags_with _ _ _ _ = None

abbrev pub flags_of : Data → Option Flags
flags_of value =
    flags_with (flag_at (codes "host_only") value) (flag_at (codes "secure") value)
    (flag_at (codes "http_only") value) (enforcement_at (codes "same_site") value)

-- the cookie of these
abbrev pub cookie_with : Option Texts → Option Flags → Option Times → Option KeptView
cookie_with (Some texts) (Some flags) (Some times) =
    Some (record {
      name = texts.name;
      value = texts.value;
      domain = texts.domain;
      is_host_only = flags.is_host_only;
      path = texts.path;
      is_secure_only = flags.is_secure_only;
      is_http_only = flags.is_http_only;
      same_site = flags.same_site;
      expiry = Some times.expiry;
      last_access = times.last_access;
    })
cookie_with _ _ _ = None

abbrev pub cookie_of_data : Data → Option KeptView
cookie_of_data value = cookie_with (texts_of value) (flags_of value) (times_of value)

-- a cookie as the form carries it: one whose times aren't after those that it could have been stored with by then
abbrev pub json_cookie : DateTime → KeptView → KeptView
json_cookie now cookie =
    record cookie {
      expiry = limited now cookie.expiry;
      last_access = earlier_of cookie.last_access (civil_nanos now);
    }

-- a cookie that a user agent could have stored
abbrev pub line_of_cookie : DateTime → Option KeptView → Line
line_of_cookie now None = line.Bad
line_of_cookie now (Some cookie) =
    if is_storable cookie then line.Cookie (json_cookie now cookie) else line.Bad

abbrev pub line_of_data : DateTime → Option Data → Line
line_of_data now None = line.Bad
line_of_data now (Some value) = line_of_cookie now (cookie_of_data value)

-- what a line holds; other members of the object are passed over
abbrev pub json_line_read : DateTime → List ℕ → Line
json_line_read now [] = line.Other
json_line_read now (byte ∷ bytes) =
    if is_utf8 (byte ∷ bytes) then line_of_data now (read (byte ∷ bytes)) else line.Bad

-- the texts of the cookie are bytes, as they always are in the code
abbrev pub has_bytes : KeptView → Bool
has_bytes cookie =
    list_all is_byte cookie.name
    && (list_all is_byte cookie.value
    && (list_all is_byte cookie.domain && list_all is_byte cookie.path))
