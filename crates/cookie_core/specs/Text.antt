-- The text of a cookie (RFC 6265 4.1.1, RFC 6265bis 4.1.1).
use Rattle.std.specs.Prelude.{ℕ, ℤ, pos, int_div, Bool, true, false, ◌&&◌, ◌||◌, List, [], ◌∷◌, ◌++◌, Option, Some, None, option_map, codes, if◌then◌else◌}
use Rattle.std.specs.Fmt.{signed_decimal}
use Rattle.cookie_date.specs.Text.{moment_text}
use Rattle.cookie_core.specs.Escapes.{printed_form}
use Rattle.cookie_core.specs.Record.{Record}
use Rattle.cookie_core.specs.SameSite.{same_site_text}
use Rattle.cookie_core.specs.Separators.{semicolon}
use Rattle.cookie_core.specs.declared.same_site.SameSite.{SameSite}
use Rattle.cookie_core.specs.declared.same_site.SameSite.TheVariants as same_site
use Rattle.cookie_core.specs.declared.expiration.Expiration.{Expiration}
use Rattle.cookie_core.specs.declared.expiration.Expiration.TheVariants as expiration

-- set, and true
abbrev pub is_true : Option Bool → Bool
is_true (Some flag) = flag
is_true None = false

-- not set
abbrev pub is_unset : {X : Type 0} → Option X → Bool
is_unset None = true
is_unset (Some value) = false

-- set to `None`
abbrev pub is_same_site_none : Option SameSite → Bool
is_same_site_none (Some same_site.None) = true
is_same_site_none _ = false

-- whether `Secure` is printed
abbrev pub prints_secure : Record → Bool
prints_secure cookie =
    is_true cookie.secure || is_true cookie.partitioned
    || (is_unset cookie.secure && is_same_site_none cookie.same_site)

-- the text of a flag, where it is shown
abbrev pub flag_text : List ℕ → Bool → List ℕ
flag_text text true = text
flag_text text false = []

-- the text of an attribute, where it is set
abbrev pub attribute_text : List ℕ → Option (List ℕ) → List ℕ
attribute_text label (Some value) = label ++ value
attribute_text label None = []

-- the whole seconds of this many nanoseconds, cut toward zero
abbrev pub seconds_text : ℤ → List ℕ
seconds_text nanos = signed_decimal (int_div nanos (pos 1000000000))

-- the text of an expiry, if it is a date-time
abbrev pub expiry_text : Option Expiration → Option (List ℕ)
expiry_text (Some (expiration.DateTime moment)) = Some (moment_text moment)
expiry_text _ = None

-- an attribute as it is printed after a `;`: a flag, if it is shown, or a label and its value, if it has one
pub data ShownAttribute : Type 0 where
  Flag : List ℕ → Bool → ShownAttribute
  Valued : List ℕ → Option (List ℕ) → ShownAttribute

-- its text
abbrev pub shown_text : ShownAttribute → List ℕ
shown_text (Flag word is_shown) = flag_text (semicolon ∷ word) is_shown
shown_text (Valued label value) = attribute_text (semicolon ∷ label) value

-- their texts, one after the other
abbrev pub shown_texts : List ShownAttribute → List ℕ
shown_texts [] = []
shown_texts (attribute ∷ []) = shown_text attribute
shown_texts (attribute ∷ next ∷ attributes) =
    shown_text attribute ++ shown_texts (next ∷ attributes)

-- which requests the cookie goes with
abbrev pub scope_attributes : Record → List ShownAttribute
scope_attributes cookie =
    Flag (codes " HttpOnly") (is_true cookie.http_only)
    ∷ Valued (codes " SameSite=") (option_map same_site_text cookie.same_site)
    ∷ Flag (codes " Partitioned") (is_true cookie.partitioned)
    ∷ Flag (codes " Secure") (prints_secure cookie)
    ∷ []

-- where it is sent
abbrev pub place_attributes : Record → List ShownAttribute
place_attributes cookie =
    Valued (codes " Path=") cookie.path ∷ Valued (codes " Domain=") cookie.domain ∷ []

-- how long it is kept
abbrev pub lifetime_attributes : Record → List ShownAttribute
lifetime_attributes cookie =
    Valued (codes " Max-Age=") (option_map seconds_text cookie.max_age)
    ∷ Valued (codes " Expires=") (expiry_text cookie.expires)
    ∷ []

-- the text of each
abbrev pub scope_text : Record → List ℕ
scope_text cookie = shown_texts (scope_attributes cookie)

abbrev pub place_text : Record → List ℕ
place_text cookie = shown_texts (place_attributes cookie)

abbrev pub lifetime_text : Record → List ℕ
lifetime_text cookie = shown_texts (lifetime_attributes cookie)

-- the attributes of a cookie, in order
abbrev pub attributes_text : Record → List ℕ
attributes_text cookie = scope_text cookie ++ (place_text cookie ++ lifetime_text cookie)

-- the text of a cookie, with escapes or without, and with its attributes or stripped of them
abbrev pub cookie_text : Bool → Bool → Record → List ℕ
cookie_text encoded stripped cookie =
    printed_form encoded cookie.name
    ++ (codes "=" ++ (printed_form encoded cookie.value
    ++ (if stripped then [] else attributes_text cookie)))
