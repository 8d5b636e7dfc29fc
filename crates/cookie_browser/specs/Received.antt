-- A `Set-Cookie` text as a browser reads it (RFC 6265bis, The Set-Cookie Header Field).
use Rattle.std.specs.Prelude.{ℕ, ◌+◌, ◌==◌, ◌||◌, ◌&&◌, min, Bool, true, false, nat_lt, List, [], fold, length, codes, Option, Some, None, option_map, Result, Ok, Err, if◌then◌else◌}
use Rattle.std.specs.List.{list_any}
use Rattle.std.specs.Option.{option_or}
use Rattle.std.specs.Str.{bytes_eq, str_to_ascii_lowercase}
use Rattle.jiff.specs.Types.{DateTime}
use Rattle.cookie_core.specs.Attributes.{max_age_seconds}
use Rattle.cookie_core.specs.Pieces.{pieces}
use Rattle.cookie_core.specs.Separators.{equals_sign, semicolon}
use Rattle.cookie_core.specs.Size.{most_bytes}
use Rattle.cookie_date.specs.CookieDate.{cookie_date_of}
use Rattle.cookie_core.specs.Wsp.{trim_wsp}
use Rattle.cookie_browser.specs.Bytes.{cut}
use Rattle.cookie_browser.specs.declared.enforcement.Enforcement.{Enforcement}
use Rattle.cookie_browser.specs.declared.enforcement.Enforcement.TheVariants as enforcement
use Rattle.cookie_browser.specs.declared.refusal.Refusal.{Refusal}
use Rattle.cookie_browser.specs.declared.refusal.Refusal.TheVariants as refusal

-- ---- attributes: the last one of each name counts

-- the age in seconds, at most the limit; the date-time of `Expires`, not yet limited; the values of `Domain` and `Path`,
-- empty if there is none; whether there is a `Path`; and the flags
pub record AttributesView : Type 0 where
  pub max_age : Option ℕ
  pub expires : Option DateTime
  pub domain : List ℕ
  pub path : List ℕ
  pub has_path : Bool
  pub secure : Bool
  pub http_only : Bool
  pub same_site : Enforcement

-- no attributes
abbrev pub without_attributes : AttributesView
without_attributes =
    record {
      max_age = None;
      expires = None;
      domain = [];
      path = [];
      has_path = false;
      secure = false;
      http_only = false;
      same_site = enforcement.Default;
    }

-- 400 days in seconds (Cookie Lifetime Limits)
abbrev pub age_limit : ℕ
age_limit = 34560000

-- the age of a value, cut to the limit; a negative one is zero, and a value that isn't a number has none (The Max-Age
-- Attribute)
abbrev pub age_of : List ℕ → Option ℕ
age_of value = option_map (λ seconds. min seconds age_limit) (max_age_seconds value)

-- the text is the word, in any ASCII case
abbrev pub spells : List ℕ → List ℕ → Bool
spells text word = bytes_eq (str_to_ascii_lowercase text) word

-- the enforcement that a value names, and `Default` for any other value (The SameSite Attribute)
abbrev pub enforcement_of : List ℕ → Enforcement
enforcement_of value =
    if spells value (codes "none") then enforcement.None
    else if spells value (codes "strict") then enforcement.Strict
    else if spells value (codes "lax") then enforcement.Lax else enforcement.Default

-- the attributes after one of this name and value; an unknown name changes nothing, nor does a date or an age that can't
-- be read
unfoldable pub with_attribute : AttributesView → List ℕ → List ℕ → AttributesView
with_attribute attributes name value =
    if spells name (codes "expires")
    then record attributes { expires = option_or (cookie_date_of value) attributes.expires }
    else if spells name (codes "max-age")
    then record attributes { max_age = option_or (age_of value) attributes.max_age }
    else if spells name (codes "domain") then record attributes { domain = value }
    else if spells name (codes "path") then record attributes { path = value; has_path = true }
    else if spells name (codes "secure") then record attributes { secure = true }
    else if spells name (codes "httponly") then record attributes { http_only = true }
    else if spells name (codes "samesite")
    then record attributes { same_site = enforcement_of value } else attributes

-- the name of an attribute, and its value, empty if there is no `=`
abbrev pub attribute_name : List ℕ → List ℕ
attribute_name piece = trim_wsp (cut equals_sign piece).0

abbrev pub value_after : Option (List ℕ) → List ℕ
value_after None = []
value_after (Some value) = trim_wsp value

abbrev pub attribute_value : List ℕ → List ℕ
attribute_value piece = value_after (cut equals_sign piece).1

-- the attributes after a piece; one whose value has more than 1024 bytes is passed over
unfoldable pub with_piece : AttributesView → List ℕ → AttributesView
with_piece attributes piece =
    if nat_lt 1024 (length (attribute_value piece)) then attributes
    else with_attribute attributes (attribute_name piece) (attribute_value piece)

-- the pieces of the text after a semicolon, if there is one
abbrev pub pieces_after : Option (List ℕ) → List (List ℕ)
pieces_after None = []
pieces_after (Some text) = pieces text

-- the attributes of the text after the first semicolon, if there is one
abbrev pub attributes_of : Option (List ℕ) → AttributesView
attributes_of rest = fold with_piece without_attributes (pieces_after rest)

-- ---- the name and the value

-- a received cookie: the name and the value as the text has them, and the attributes
pub record ReceivedView : Type 0 where
  pub name : List ℕ
  pub value : List ℕ
  pub attributes : AttributesView

-- a control character other than a tab
abbrev pub is_control : ℕ → Bool
is_control byte = nat_lt byte 9 || (nat_lt 9 byte && nat_lt byte 32 || byte == 127)

-- the name and the value on the two sides of the first `=`; without one there is no name
abbrev pub received_name_value : List ℕ × Option (List ℕ) → List ℕ × List ℕ
received_name_value (value, None) = ([], trim_wsp value)
received_name_value (name, Some value) = (trim_wsp name, trim_wsp value)

-- a name and a value of more than `most_bytes` bytes in all are refused
abbrev pub received_pair : List ℕ × List ℕ → Option (List ℕ) → Result ReceivedView Refusal
received_pair pair rest =
    if nat_lt most_bytes (length pair.0 + length pair.1) then Err refusal.TooLong
    else Ok (record { name = pair.0; value = pair.1; attributes = attributes_of rest })

-- what a text is received as, or why a browser ignores it in its entirety
unfoldable pub received : List ℕ → Result ReceivedView Refusal
received text =
    if list_any is_control text then Err refusal.ControlCharacter
    else received_pair (received_name_value (cut equals_sign (cut semicolon text).0))
    (cut semicolon text).1
