-- Netscape's `cookies.txt`, as curl and wget write and read it. A cookie is a line of seven fields with tabs between
-- them: the domain, with a dot before it if the hosts below it get the cookie too; whether they do; the path; whether
-- the cookie is secure-only; when it expires, in whole seconds since 1970 in UTC; the name; the value. `#HttpOnly_`
-- before them says that it is http-only. Other lines that begin with `#`, and empty ones, say nothing.
use Rattle.std.specs.Prelude.{ℕ, ℤ, pos, negsuc, ◌/◌, ◌^◌, ◌==◌, ◌&&◌, not, nat_le, nat_lt, Bool, true, false, List, [], ◌∷◌, ◌++◌, codes, decimal, drop, eqb, is_some, length, Option, Some, None, option_map, unwrap_or, if◌then◌else◌}
use Rattle.std.specs.List.{join_with_byte, list_all, slice_split, starts_with}
use Rattle.std.specs.Str.{str_to_ascii_lowercase}
use Rattle.jiff.specs.Types.{DateTime}
use Rattle.jiff.specs.Words.{civil_nanos}
use Rattle.cookie_core.specs.Attributes.{nanos_of_seconds, seconds_of_digits}
use Rattle.cookie_core.specs.Record.{without_leading_dot}
use Rattle.cookie_browser.specs.Received.{spells}
use Rattle.cookie_browser.specs.Storage.{KeptView}
use Rattle.cookie_browser.specs.declared.enforcement.Enforcement.TheVariants as enforcement
use Rattle.cookie_agent.specs.Storable.{is_storable, limited}
use Rattle.cookie_agent.specs.declared.saved.line.Line.{Line}
use Rattle.cookie_agent.specs.declared.saved.line.Line.TheVariants as line

-- before the fields of an http-only cookie
abbrev pub http_only_mark : List ℕ
http_only_mark = codes "#HttpOnly_"

-- ---- what the form can carry

-- the whole seconds from 1970 to a time; 0 if the time is earlier
abbrev pub seconds_from_1970 : ℤ → ℕ
seconds_from_1970 (pos nanos) = nanos / 1000000000
seconds_from_1970 (negsuc nanos) = 0

-- the seconds of an expiry, if they are at least 1 and below 2 ^ 63: 0 would say that the cookie isn't persistent
abbrev pub expiry_seconds : Option ℤ → Option ℕ
expiry_seconds None = None
expiry_seconds (Some time) =
    if nat_lt 0 (seconds_from_1970 time) && nat_lt (seconds_from_1970 time) (2 ^ 63)
    then Some (seconds_from_1970 time) else None

-- no control character, and so no tab
abbrev pub is_field_byte : ℕ → Bool
is_field_byte byte = nat_le 32 byte && not (byte == 127)

abbrev pub is_one_field : List ℕ → Bool
is_one_field text = list_all is_field_byte text

-- the texts of a cookie that a user agent could store; it has a name, and each text is one field
abbrev pub has_fields : KeptView → Bool
has_fields cookie =
    is_storable cookie
    && (nat_lt 0 (length cookie.name)
    && (is_one_field cookie.name && (is_one_field cookie.value && is_one_field cookie.path)))

abbrev pub is_carried : KeptView → Bool
is_carried cookie = has_fields cookie && is_some (expiry_seconds cookie.expiry)

-- ---- what is written

abbrev pub flag_text : Bool → List ℕ
flag_text true = codes "TRUE"
flag_text false = codes "FALSE"

-- the domain, with a dot before it if the hosts below it get the cookie
abbrev pub domain_field : KeptView → List ℕ
domain_field cookie = if cookie.is_host_only then cookie.domain else 46 ∷ cookie.domain

-- the seven fields
abbrev pub fields_of : KeptView → List (List ℕ)
fields_of cookie =
    domain_field cookie
    ∷ flag_text (not cookie.is_host_only)
    ∷ cookie.path
    ∷ flag_text cookie.is_secure_only
    ∷ decimal (unwrap_or (expiry_seconds cookie.expiry) 0)
    ∷ cookie.name
    ∷ cookie.value
    ∷ []

-- the line, with its line feed
abbrev pub cookie_line : KeptView → List ℕ
cookie_line cookie =
    (if cookie.is_http_only then http_only_mark else [])
    ++ (join_with_byte 9 (fields_of cookie) ++ 10 ∷ [])

-- the first line, as curl writes it
abbrev pub head_line : List ℕ
head_line = codes "# Netscape HTTP Cookie File\n"

-- ---- what is read

-- `TRUE` or `FALSE`, in any ASCII case
abbrev pub flag_of : List ℕ → Option Bool
flag_of text =
    if spells text (codes "true") then Some true
    else if spells text (codes "false") then Some false else None

-- the cookie of the fields; what the form doesn't carry is as if no `SameSite` had been set, and as if the cookie had
-- last been sent when it was loaded
abbrev pub cookie_of : DateTime → Bool → List ℕ → Bool → List ℕ → Bool → ℕ → List ℕ → List ℕ
    → KeptView
cookie_of now http_only domain below path secure seconds name value =
    record {
      name = name;
      value = value;
      domain = str_to_ascii_lowercase (without_leading_dot domain);
      is_host_only = not below;
      path = path;
      is_secure_only = secure;
      is_http_only = http_only;
      same_site = enforcement.Default;
      expiry = Some (nanos_of_seconds seconds);
      last_access = civil_nanos now;
    }

-- A line with 0 seconds holds a cookie that ended with the browser which wrote it.
abbrev pub line_of : DateTime → ℕ → KeptView → Line
line_of now seconds cookie =
    if not (has_fields cookie) then line.Bad
    else if seconds == 0 then line.Other
    else line.Cookie (record cookie { expiry = limited now cookie.expiry })

-- the line of fields of which the flags and the seconds were read
abbrev pub read_line : DateTime → Bool → List ℕ → Option Bool → List ℕ → Option Bool → Option ℕ
    → List ℕ → List ℕ → Line
read_line now http_only domain (Some below) path (Some secure) (Some seconds) name value =
    line_of now seconds (cookie_of now http_only domain below path secure seconds name value)
read_line now http_only domain _ path _ _ name value = line.Bad

-- seven fields; without the last one the value is empty
abbrev pub line_of_fields : DateTime → Bool → List (List ℕ) → Line
line_of_fields now http_only
    (domain ∷ below ∷ path ∷ secure ∷ expiry ∷ name ∷ value ∷ []) =
    read_line now http_only domain (flag_of below) path (flag_of secure) (seconds_of_digits expiry)
    name value
line_of_fields now http_only (domain ∷ below ∷ path ∷ secure ∷ expiry ∷ name ∷ []) =
    read_line now http_only domain (flag_of below) path (flag_of secure) (seconds_of_digits expiry)
    name []
line_of_fields now http_only _ = line.Bad

-- the fields of a line
abbrev pub split_fields : List ℕ → List (List ℕ)
split_fields text = slice_split (λ byte. byte == 9) text

-- what a line holds
abbrev pub line_read : DateTime → List ℕ → Line
line_read now [] = line.Other
line_read now (byte ∷ bytes) =
    if starts_with eqb (byte ∷ bytes) http_only_mark
    then line_of_fields now true (split_fields (drop 10 (byte ∷ bytes)))
    else if byte == 35 then line.Other
    else line_of_fields now false (split_fields (byte ∷ bytes))

-- a cookie as the form carries it
abbrev pub txt_cookie : DateTime → KeptView → KeptView
txt_cookie now cookie =
    record cookie {
      same_site = enforcement.Default;
      expiry = limited now (option_map nanos_of_seconds (expiry_seconds cookie.expiry));
      last_access = civil_nanos now;
    }
