-- What the attributes of a cookie set (RFC 6265 5.2.1 to 5.2.6; `samesite`: RFC 6265bis 5.6.7; `partitioned`:
-- draft-cutler-httpbis-partitioned-cookies). A piece is the text between two semicolons.
use Rattle.std.specs.Prelude.{◌≡◌, ◌≢◌, ℕ, ◌*ℤ◌, ℤ, pos, min, eqb, drop, List, [], ◌∷◌, ◌++◌, All, Option, Some, None, Bool, true, if◌then◌else◌, codes, option_map}
use Rattle.std.specs.Char.{is_ascii_digit}
use Rattle.std.specs.List.{list_all, starts_with}
use Rattle.std.specs.Str.{trim, str_to_ascii_lowercase}
use Rattle.std.specs.Str.Parse.{digits_value}
use Rattle.cookie_date.specs.Forms.{IsDateText}
use Rattle.cookie_core.specs.Pieces.{Lacks}
use Rattle.cookie_core.specs.Record.{Record, without_leading_dot}
use Rattle.cookie_core.specs.Separators.{equals_sign, hyphen}
use Rattle.cookie_core.specs.declared.attributes.Key.{Key}
use Rattle.cookie_core.specs.declared.attributes.Key.TheVariants as key
use Rattle.cookie_core.specs.declared.same_site.SameSite.{SameSite}
use Rattle.cookie_core.specs.declared.same_site.SameSite.TheVariants as same_site_of
use Rattle.cookie_core.specs.declared.expiration.Expiration.{Expiration}
use Rattle.cookie_core.specs.declared.expiration.Expiration.TheVariants as expiration

-- the piece is a name and a value, which are trimmed, around its first `=`
abbrev pub IsPair : List ℕ → List ℕ → List ℕ → Type 0
IsPair piece name value =
    (before : List ℕ) × (after : List ℕ) × (piece ≡ before ++ equals_sign ∷ after)
    × Lacks equals_sign before × (name ≡ trim before) × (value ≡ trim after)

-- the piece has this word before its first `=`, and the value after it if there is a `=`
abbrev pub IsAttribute : List ℕ → List ℕ → Option (List ℕ) → Type 0
IsAttribute piece word None = Lacks equals_sign piece × (word ≡ trim piece)
IsAttribute piece word (Some value) = IsPair piece word value

-- the text is the word, in any ASCII case
abbrev pub IsWord : List ℕ → List ℕ → Type 0
IsWord text word = str_to_ascii_lowercase text ≡ word

-- the seconds of an age of these digits, where there is a digit and nothing else: no more than the greatest
abbrev pub seconds_of_digits : List ℕ → Option ℕ
seconds_of_digits [] = None
seconds_of_digits (digit ∷ digits) =
    if list_all is_ascii_digit (digit ∷ digits)
    then Some (min (digits_value 10 (digit ∷ digits)) 9223372036854775807) else None

-- the seconds that the value of `max-age` gives, if it is valid (RFC 6265 5.2.2): one leading `-` is taken off, and
-- makes them zero
abbrev pub max_age_seconds : List ℕ → Option ℕ
max_age_seconds value =
    if starts_with eqb value (hyphen ∷ [])
    then option_map (λ _. 0) (seconds_of_digits (drop 1 value)) else seconds_of_digits value

-- the age of this many seconds, in nanoseconds
abbrev pub nanos_of_seconds : ℕ → ℤ
nanos_of_seconds seconds = pos seconds *ℤ pos 1000000000

-- the name of a value of `samesite`, in lower case
abbrev pub same_site_key : SameSite → List ℕ
same_site_key same_site_of.Strict = codes "strict"
same_site_key same_site_of.Lax = codes "lax"
same_site_key same_site_of.None = codes "none"

-- what the field of this key is set to
abbrev pub Setting : Key → Type 0
Setting key.HttpOnly = Bool
Setting key.Secure = Bool
Setting key.Partitioned = Bool
Setting key.SameSite = SameSite
Setting key.Path = List ℕ
Setting key.Domain = List ℕ
Setting key.MaxAge = ℤ
Setting key.Expires = Expiration

-- the field of the key
abbrev pub field_at : (attribute : Key) → Record → Option (Setting attribute)
field_at key.HttpOnly cookie = cookie.http_only
field_at key.Secure cookie = cookie.secure
field_at key.Partitioned cookie = cookie.partitioned
field_at key.SameSite cookie = cookie.same_site
field_at key.Path cookie = cookie.path
field_at key.Domain cookie = cookie.domain
field_at key.MaxAge cookie = cookie.max_age
field_at key.Expires cookie = cookie.expires

-- the record of a name, a value and what the field of each key is
abbrev pub record_of : List ℕ → List ℕ → ((attribute : Key) → Option (Setting attribute)) → Record
record_of name value field =
    record {
      name = name;
      value = value;
      http_only = field key.HttpOnly;
      secure = field key.Secure;
      partitioned = field key.Partitioned;
      same_site = field key.SameSite;
      path = field key.Path;
      domain = field key.Domain;
      max_age = field key.MaxAge;
      expires = field key.Expires;
    }

-- the word of the key, in lower case
abbrev pub word_of : Key → List ℕ
word_of key.HttpOnly = codes "httponly"
word_of key.Secure = codes "secure"
word_of key.Partitioned = codes "partitioned"
word_of key.SameSite = codes "samesite"
word_of key.Path = codes "path"
word_of key.Domain = codes "domain"
word_of key.MaxAge = codes "max-age"
word_of key.Expires = codes "expires"

-- the text gives the expiry
abbrev pub GivesExpiry : List ℕ → Expiration → Type 0
GivesExpiry text (expiration.DateTime moment) = IsDateText text moment
GivesExpiry text expiration.Session = ⊥

-- an attribute of this key and this value, if it has one, gives the field this setting
abbrev pub GivesSetting : (attribute : Key) → Option (List ℕ) → Setting attribute → Type 0
GivesSetting key.HttpOnly _ setting = setting ≡ true
GivesSetting key.Secure _ setting = setting ≡ true
GivesSetting key.Partitioned _ setting = setting ≡ true
GivesSetting key.SameSite (Some value) setting = IsWord value (same_site_key setting)
GivesSetting key.Path (Some value) setting = value ≡ setting
GivesSetting key.Domain (Some value) setting = (value ≢ []) × (setting ≡ without_leading_dot value)
GivesSetting key.MaxAge (Some value) setting =
    option_map nanos_of_seconds (max_age_seconds value) ≡ Some setting
GivesSetting key.Expires (Some value) setting = GivesExpiry value setting
GivesSetting _ None _ = ⊥

-- the piece sets the field of the key to the setting: it has the key's word, in any ASCII case, and a value that gives
-- the setting
abbrev pub Sets : List ℕ → (attribute : Key) → Setting attribute → Type 0
Sets piece attribute setting =
    (word : List ℕ) × (value : Option (List ℕ))
    × IsAttribute piece word value × IsWord word (word_of attribute)
    × GivesSetting attribute value setting

-- the piece does not set the field of the key
abbrev pub Skips : Key → List ℕ → Type 0
Skips attribute piece = (setting : Setting attribute) → ¬ (Sets piece attribute setting)

-- what some piece sets the field to, where no later piece sets it; none, where no piece sets it
abbrev pub IsLastSet : (attribute : Key) → List (List ℕ) → Option (Setting attribute) → Type 0
IsLastSet attribute pieces None = All (Skips attribute) pieces
IsLastSet attribute pieces (Some setting) =
    (before : List (List ℕ)) × (piece : List ℕ) × (after : List (List ℕ))
    × (pieces ≡ before ++ piece ∷ after) × Sets piece attribute setting
    × All (Skips attribute) after

-- each attribute is what the last piece that sets it sets it to
pub record SetsAttributes (pieces : List (List ℕ)) (cookie : Record) : Type 0 where
  pub each : (attribute : Key) → IsLastSet attribute pieces (field_at attribute cookie)
