-- The record that a text is read as, as a function of the text (RFC 6265 5.2). `Reads` says the same as a relation.
use Rattle.std.specs.Prelude.{ℕ, ◌==◌, Bool, true, false, if◌then◌else◌, List, [], ◌∷◌, Option, Some, None, option_map, filter_map, find, bytes_eq}
use Rattle.std.specs.List.{before_first, after_first, list_any}
use Rattle.std.specs.Option.{option_or}
use Rattle.std.specs.Str.{trim, str_to_ascii_lowercase, is_utf8}
use Rattle.cookie_date.specs.Chains.{◌>>=◌}
use Rattle.cookie_date.specs.Moments.{date_of}
use Rattle.cookie_core.specs.Attributes.{Setting, record_of, word_of, nanos_of_seconds, max_age_seconds, same_site_key}
use Rattle.cookie_core.specs.Escapes.{unescape}
use Rattle.cookie_core.specs.Header.{kept_texts}
use Rattle.cookie_core.specs.Pieces.{pieces}
use Rattle.cookie_core.specs.Record.{Record, without_leading_dot}
use Rattle.cookie_core.specs.Separators.{equals_sign}
use Rattle.cookie_core.specs.declared.attributes.Key.{Key}
use Rattle.cookie_core.specs.declared.attributes.Key.TheVariants as key
use Rattle.cookie_core.specs.declared.same_site.SameSite.{SameSite}
use Rattle.cookie_core.specs.declared.same_site.SameSite.TheVariants as same_site
use Rattle.cookie_core.specs.declared.expiration.Expiration.TheVariants as expiration

-- the key of a piece: what stands before its first `=`, or all of it, trimmed
abbrev pub key_text : List ℕ → List ℕ
key_text piece = trim (before_first (λ byte. byte == equals_sign) piece)

-- the value of a piece: what stands after its first `=`, trimmed, where there is one
abbrev pub value_text : List ℕ → Option (List ℕ)
value_text piece =
    if list_any (λ byte. byte == equals_sign) piece
    then Some (trim (after_first (λ byte. byte == equals_sign) piece)) else None

-- the text, if it is not empty
abbrev pub unless_empty : List ℕ → Option (List ℕ)
unless_empty [] = None
unless_empty (byte ∷ bytes) = Some (byte ∷ bytes)

-- the rule that the text names, in any ASCII case
abbrev pub same_site_named : List ℕ → Option SameSite
same_site_named value =
    find (λ rule. bytes_eq (str_to_ascii_lowercase value) (same_site_key rule))
    (same_site.Strict ∷ same_site.Lax ∷ same_site.None ∷ [])

-- the setting that an attribute of this key and this value, if it has one, gives
abbrev pub setting_of : (attribute : Key) → Option (List ℕ) → Option (Setting attribute)
setting_of key.HttpOnly _ = Some true
setting_of key.Secure _ = Some true
setting_of key.Partitioned _ = Some true
setting_of key.SameSite (Some value) = same_site_named value
setting_of key.Path (Some value) = Some value
setting_of key.Domain (Some value) = option_map without_leading_dot (unless_empty value)
setting_of key.MaxAge (Some value) = option_map nanos_of_seconds (max_age_seconds value)
setting_of key.Expires (Some value) = option_map expiration.DateTime (date_of value)
setting_of _ None = None

-- what a piece sets the field of the key to, if its key is the word in any ASCII case
abbrev pub setting_in : (attribute : Key) → List ℕ → Option (Setting attribute)
setting_in attribute piece =
    if bytes_eq (str_to_ascii_lowercase (key_text piece)) (word_of attribute)
    then setting_of attribute (value_text piece) else None

-- what the last piece that sets the field sets it to
abbrev pub last_set : (attribute : Key) → List (List ℕ) → Option (Setting attribute)
last_set attribute [] = None
last_set attribute (piece ∷ later) =
    option_or (last_set attribute later) (setting_in attribute piece)

-- the record of a name, a value and what the pieces after them set
abbrev pub record_in : List ℕ → List ℕ → List (List ℕ) → Record
record_in name value later = record_of name value (λ attribute. last_set attribute later)

-- the text as it stands; with decoding, the bytes without escapes, if they are UTF-8
abbrev pub decoded_text : Bool → List ℕ → Option (List ℕ)
decoded_text false text = Some text
decoded_text true text = if is_utf8 (unescape text) then Some (unescape text) else None

-- the record that the pieces of a text are read as, if the first has a `=`, a name that is not empty, and can be
-- decoded
abbrev pub cookie_in : Bool → List (List ℕ) → Option Record
cookie_in decode [] = None
cookie_in decode (piece ∷ later) = do
  raw_value ← value_text piece
  raw_name ← unless_empty (key_text piece)
  name ← decoded_text decode raw_name
  value ← decoded_text decode raw_value
  Some (record_in name value later)

-- the record that the text is read as, or `None` where it is refused
unfoldable pub cookie_of : Bool → List ℕ → Option Record
cookie_of decode text = cookie_in decode (pieces text)

-- the records that a header's cookies are read as, without those that are refused
unfoldable pub header_cookies : Bool → List ℕ → List Record
header_cookies decode header = filter_map (cookie_of decode) (kept_texts (pieces header))
