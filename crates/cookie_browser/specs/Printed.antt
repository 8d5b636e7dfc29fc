-- What a browser receives of a printed cookie.
use Rattle.std.specs.Prelude.{◌≡◌, ℕ, ◌+◌, ◌≤◌, ℤ, pos, int_div, min, not, true, false, Ok, Bool, List, length, Option, Some, None, option_map, unwrap_or, is_some, [], IfSome}
use Rattle.std.specs.List.{list_all}
use Rattle.jiff.specs.Types.{DateTime}
use Rattle.cookie_core.specs.Escapes.{escape}
use Rattle.cookie_core.specs.Normal.{IsNamed}
use Rattle.cookie_core.specs.Pieces.{Lacks}
use Rattle.cookie_core.specs.Record.{Record}
use Rattle.cookie_core.specs.Separators.{semicolon}
use Rattle.cookie_core.specs.Size.{most_bytes}
use Rattle.cookie_core.specs.Text.{cookie_text, is_true, prints_secure}
use Rattle.cookie_core.specs.declared.same_site.SameSite.{SameSite}
use Rattle.cookie_core.specs.declared.same_site.SameSite.TheVariants as same_site
use Rattle.cookie_core.specs.declared.expiration.Expiration.{Expiration}
use Rattle.cookie_core.specs.declared.expiration.Expiration.TheVariants as expiration
use Rattle.cookie_date.specs.CookieDate.{cookie_date_of}
use Rattle.cookie_date.specs.Text.{moment_text}
use Rattle.cookie_core.specs.Wsp.{trim_wsp}
use Rattle.cookie_browser.specs.Received.{ReceivedView, is_control, age_limit, received}
use Rattle.cookie_browser.specs.declared.enforcement.Enforcement.{Enforcement}
use Rattle.cookie_browser.specs.declared.enforcement.Enforcement.TheVariants as enforcement

-- no byte is a control character other than a tab
abbrev pub is_quiet : ℕ → Bool
is_quiet byte = not (is_control byte)

-- a text that is received as it is printed: no `;`, no control character, no blank at an end, at most 1024 bytes
pub record IsPlainValue (text : List ℕ) : Type 0 where
  pub whole : Lacks semicolon text
  pub quiet : list_all is_quiet text ≡ true
  pub trimmed : trim_wsp text ≡ text
  pub short : length text ≤ 1024

-- a cookie whose text a browser receives unchanged: it has a name, and each part is short enough and plain
pub record IsReceivable (cookie : Record) : Type 0 where
  pub named : IsNamed cookie
  pub size : length (escape cookie.name) + length (escape cookie.value) ≤ most_bytes
  pub path : IfSome cookie.path IsPlainValue
  pub domain : IfSome cookie.domain IsPlainValue

-- the enforcement of a printed `SameSite`
abbrev pub printed_enforcement : Option SameSite → Enforcement
printed_enforcement None = enforcement.Default
printed_enforcement (Some same_site.Strict) = enforcement.Strict
printed_enforcement (Some same_site.Lax) = enforcement.Lax
printed_enforcement (Some same_site.None) = enforcement.None

-- a number of seconds, zero if it is below zero
abbrev pub or_zero : ℤ → ℕ
or_zero (pos count) = count
or_zero _ = 0

-- the whole seconds of an age, from zero to the limit
abbrev pub printed_age : ℤ → ℕ
printed_age nanos = min (or_zero (int_div nanos (pos 1000000000))) age_limit

-- the date-time that the text of an expiry is read as
abbrev pub printed_moment : Option Expiration → Option DateTime
printed_moment (Some (expiration.DateTime moment)) = cookie_date_of (moment_text moment)
printed_moment _ = None

-- what the text is received as: the name and the value escaped, the age in whole seconds from zero to the limit, the
-- expiry as its text is read, `Secure` if it is printed, and the other attributes as they were
abbrev pub printed_as : Record → ReceivedView
printed_as cookie =
    record {
      name = escape cookie.name;
      value = escape cookie.value;
      attributes = record {
        max_age = option_map printed_age cookie.max_age;
        expires = printed_moment cookie.expires;
        domain = unwrap_or cookie.domain [];
        path = unwrap_or cookie.path [];
        has_path = is_some cookie.path;
        secure = prints_secure cookie;
        http_only = is_true cookie.http_only;
        same_site = printed_enforcement cookie.same_site;
      };
    }

-- A browser receives the text of such a cookie as that.
abbrev pub IsPrintedReceived : Type 0
IsPrintedReceived =
    (cookie : Record) → IsReceivable cookie
    → received (cookie_text true false cookie) ≡ Ok (printed_as cookie)
