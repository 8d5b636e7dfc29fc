-- A cookie as its callers see it (RFC 6265 5.3, RFC 6265bis 4.1.2).
use Rattle.std.specs.Prelude.{ℕ, ℤ, List, [], ◌∷◌, Bool, Option, Some, None, IfSome, IsUtf8, if◌then◌else◌, ◌==◌}
use Rattle.jiff.specs.Words.{IsDurationNanos}
use Rattle.cookie_core.specs.declared.same_site.SameSite.{SameSite}
use Rattle.cookie_core.specs.declared.expiration.Expiration.{Expiration}

-- the fields of a cookie: each text is the list of its bytes, and the age is in nanoseconds
pub record Record : Type 0 where
  pub name : List ℕ
  pub value : List ℕ
  pub http_only : Option Bool
  pub secure : Option Bool
  pub partitioned : Option Bool
  pub same_site : Option SameSite
  pub path : Option (List ℕ)
  pub domain : Option (List ℕ)
  pub max_age : Option ℤ
  pub expires : Option Expiration

-- the record of a name and a value, with all else unset
abbrev pub plain : List ℕ → List ℕ → Record
plain name value =
    record {
      name = name;
      value = value;
      http_only = None;
      secure = None;
      partitioned = None;
      same_site = None;
      path = None;
      domain = None;
      max_age = None;
      expires = None;
    }

-- its texts are UTF-8, and its age is one that a duration can have
pub record IsCookie (cookie : Record) : Type 0 where
  pub name : IsUtf8 cookie.name
  pub value : IsUtf8 cookie.value
  pub path : IfSome cookie.path IsUtf8
  pub domain : IfSome cookie.domain IsUtf8
  pub max_age : IfSome cookie.max_age IsDurationNanos

-- a text without one leading dot
abbrev pub without_leading_dot : List ℕ → List ℕ
without_leading_dot [] = []
without_leading_dot (byte ∷ bytes) = if byte == 46 then bytes else byte ∷ bytes

-- the parts of a borrowed source that a cookie still shows
pub record RawForms : Type 0 where
  pub name : Option (List ℕ)
  pub value : Option (List ℕ)
  pub path : Option (List ℕ)
  pub domain : Option (List ℕ)

-- a cookie: its fields, and what it borrows
pub record CookieView : Type 0 where
  pub fields : Record
  pub raw : RawForms

-- nothing is borrowed
abbrev pub no_raw_forms : RawForms
no_raw_forms = record { name = None; value = None; path = None; domain = None }

-- the raw forms of a cookie whose texts are all parts of a borrowed source
abbrev pub all_lent : Record → RawForms
all_lent cookie =
    record {
      name = Some cookie.name;
      value = Some cookie.value;
      path = cookie.path;
      domain = cookie.domain;
    }
