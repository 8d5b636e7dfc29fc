-- Mirrors private code: what the reader's own types mean.
use Rattle.std.specs.Prelude.{◌≡◌, ℕ, List, [], Option, None, MatchOption}
use Rattle.std.specs.Option.{option_or}
use Rattle.cookie_core.specs.Record.{Record, plain}
use Rattle.cookie_core.specs.Attributes.{Setting, GivesSetting, field_at, record_of}
use Rattle.cookie_core.specs.declared.attributes.Attributes.{Attributes}
use Rattle.cookie_core.specs.declared.attributes.Key.{Key}
use Rattle.cookie_core.specs.declared.attributes.Key.TheVariants as key

-- the value of an attribute of this key, if it has one, gives no setting
abbrev pub GivesNothing : Key → Option (List ℕ) → Type 0
GivesNothing attribute value =
    (setting : Setting attribute) → ¬ (GivesSetting attribute value setting)

-- the record in which only the field of the key can be set
abbrev pub only : (attribute : Key) → Option (Setting attribute) → Record
only key.HttpOnly setting = record (plain [] []) { http_only = setting }
only key.Secure setting = record (plain [] []) { secure = setting }
only key.Partitioned setting = record (plain [] []) { partitioned = setting }
only key.SameSite setting = record (plain [] []) { same_site = setting }
only key.Path setting = record (plain [] []) { path = setting }
only key.Domain setting = record (plain [] []) { domain = setting }
only key.MaxAge setting = record (plain [] []) { max_age = setting }
only key.Expires setting = record (plain [] []) { expires = setting }

-- the field of the key is what the value of an attribute gives, if it gives a setting
abbrev pub IsSetting : (attribute : Key) → Option (List ℕ) → Option (Setting attribute) → Type 0
IsSetting attribute value setting =
    MatchOption setting (GivesNothing attribute value) (GivesSetting attribute value)

-- the field of the key is what the value of an attribute gives, if it gives a setting, and the others are unset
pub record SetsOneField (attribute : Key) (value : Option (List ℕ)) (cookie : Record) : Type 0 where
  pub field : IsSetting attribute value (field_at attribute cookie)
  pub alone : cookie ≡ only attribute (field_at attribute cookie)

-- each attribute of the first, or of the second if the first has none
abbrev pub either : Record → Record → Record
either first second =
    record_of [] [] (λ attribute. option_or (field_at attribute first) (field_at attribute second))

-- no attribute is set
abbrev pub no_attributes : Attributes
no_attributes =
    record {
      http_only = None;
      secure = None;
      partitioned = None;
      same_site = None;
      path = None;
      domain = None;
      max_age = None;
      expires = None;
    }
