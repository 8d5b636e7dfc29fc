-- What a cookie is after it was printed and read (RFC 6265 4.1.1, 5.2).
use Rattle.std.specs.Prelude.{◌≡◌, ◌≢◌, ℕ, ℤ, pos, ◌*ℤ◌, ◌<ℤ◌, ◌≤ℤ◌, ◌⊎◌, int_div, int_lt, Bool, true, false, List, [], ◌∷◌, Option, Some, None, IfSome, option_map, if◌then◌else◌}
use Rattle.std.specs.Str.{trim}
use Rattle.cookie_date.specs.Forms.{IsReadBack}
use Rattle.cookie_core.specs.Expiration.{whole_second}
use Rattle.cookie_core.specs.Pieces.{Lacks}
use Rattle.cookie_core.specs.Record.{Record, IsCookie}
use Rattle.cookie_core.specs.Separators.{semicolon}
use Rattle.cookie_core.specs.Text.{is_true, prints_secure}
use Rattle.cookie_core.specs.declared.same_site.SameSite.TheVariants as same_site
use Rattle.cookie_core.specs.declared.expiration.Expiration.{Expiration}
use Rattle.cookie_core.specs.declared.expiration.Expiration.TheVariants as expiration

-- true, or unset
abbrev pub true_or_unset : Bool → Option Bool
true_or_unset true = Some true
true_or_unset false = None

-- whole seconds, a negative age zero, in nanoseconds (RFC 6265 5.2.2)
abbrev pub whole_age : ℤ → ℤ
whole_age nanos =
    if int_lt nanos (pos 0) then pos 0 else int_div nanos (pos 1000000000) *ℤ pos 1000000000

-- a date-time without its fraction of a second, or unset
abbrev pub whole_expiry : Option Expiration → Option Expiration
whole_expiry (Some (expiration.DateTime moment)) = Some (expiration.DateTime (whole_second moment))
whole_expiry _ = None

-- the record that is read from a cookie's text
abbrev pub normal_form : Record → Record
normal_form cookie =
    record cookie {
      http_only = true_or_unset (is_true cookie.http_only);
      partitioned = true_or_unset (is_true cookie.partitioned);
      secure = true_or_unset (prints_secure cookie);
      max_age = option_map whole_age cookie.max_age;
      expires = whole_expiry cookie.expires;
    }

-- a text that a printed attribute can hold: no `;`, and no white space at either end (RFC 6265 4.1.1, 5.2)
pub record IsPlainText (text : List ℕ) : Type 0 where
  pub whole : Lacks semicolon text
  pub trimmed : trim text ≡ text

-- a domain that is read as it is printed (RFC 6265 5.2.3)
pub record IsPlainDomain (domain : List ℕ) : Type 0 where
  pub text : IsPlainText domain
  pub some : domain ≢ []
  pub no_dot : (rest : List ℕ) → domain ≢ 46 ∷ rest

-- a year that the year rule keeps: one of more than two digits, or a negative one (RFC 6265 5.1.1)
abbrev pub KeepsYear : Option Expiration → Type 0
KeepsYear (Some (expiration.DateTime moment)) =
    (moment.date.year <ℤ pos 0) ⊎ (pos 100 ≤ℤ moment.date.year)
KeepsYear _ = Unit {0}

-- its printed text is read as its normal form
pub record CanBeRead (cookie : Record) : Type 0 where
  pub name : cookie.name ≢ []
  pub path : IfSome cookie.path IsPlainText
  pub domain : IfSome cookie.domain IsPlainDomain
  pub expires : KeepsYear cookie.expires

-- a cookie with a name
pub record IsNamed (fields : Record) : Type 0 where
  pub cookie : IsCookie fields
  pub name : fields.name ≢ []

-- its path and its domain, where they are set, hold no `;`, so what is printed of them sets no other field
pub record IsUncut (cookie : Record) : Type 0 where
  pub path : IfSome cookie.path (Lacks semicolon)
  pub domain : IfSome cookie.domain (Lacks semicolon)

-- what a printed expiry is read as: the date-time of the year rule, in whole seconds (RFC 6265 5.1.1), and nothing
-- where it is no date-time
abbrev pub IsExpiryReadBack : Option Expiration → Option Expiration → Type 0
IsExpiryReadBack (Some (expiration.DateTime moment)) (Some (expiration.DateTime back)) =
    IsReadBack moment back
IsExpiryReadBack (Some (expiration.DateTime moment)) _ = ⊥
IsExpiryReadBack _ None = Unit {0}
IsExpiryReadBack _ (Some expiry) = ⊥

-- same_site is `None`, secure is false, and partitioned is not true: `Secure` is printed the second time, and not the
-- first
abbrev pub GainsSecure : Record → Type 0
GainsSecure cookie =
    (cookie.same_site ≡ Some same_site.None) × (cookie.secure ≡ Some false)
    × (cookie.partitioned ≢ Some true)
