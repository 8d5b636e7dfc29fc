-- When a browser stores a printed cookie, and sends it back.
use Rattle.std.specs.Prelude.{◌≡◌, ◌&&◌, ◌||◌, ◌⊎◌, ◌≤ℤ◌, not, true, false, Bool, ℕ, ℤ, pos, int_div, int_lt, List, [], Option, Some, None}
use Rattle.std.specs.List.{All}
use Rattle.std.specs.Str.{bytes_eq}
use Rattle.jiff.specs.Types.{DateTime}
use Rattle.jiff.specs.Words.{civil_nanos}
use Rattle.cookie_core.specs.Escapes.{escape}
use Rattle.cookie_core.specs.Expiration.{whole_second}
use Rattle.cookie_core.specs.Record.{Record}
use Rattle.cookie_core.specs.Text.{cookie_text, prints_secure}
use Rattle.cookie_core.specs.declared.expiration.Expiration.{Expiration}
use Rattle.cookie_core.specs.declared.expiration.Expiration.TheVariants as expiration
use Rattle.cookie_browser.specs.Printed.{IsReceivable, printed_as, printed_enforcement}
use Rattle.cookie_browser.specs.Request.{RequestView}
use Rattle.cookie_browser.specs.Storage.{CookieStore, KeptView, kept_after_text, allows, lasts, is_sent, kept_with, is_meant_for, first_refusal, kept_as, lasting}
use Rattle.cookie_browser.specs.Suffixes.{Rule}

-- the connection is secure, or no stored cookie of the name is secure-only
abbrev pub IsUncovered : RequestView → CookieStore → List ℕ → Type 0
IsUncovered request store name =
    (request.is_secure ≡ true)
    ⊎ All (λ stored. bytes_eq stored.name name && stored.is_secure_only ≡ false) store

-- what the printed cookie is stored as
abbrev pub printed_kept : List Rule → RequestView → DateTime → Record → KeptView
printed_kept rules request now cookie = kept_as rules request now (printed_as cookie)

-- a cookie that is received unchanged, and that a browser without cookies doesn't refuse
pub record IsStorable (rules : List Rule) (request : RequestView) (now : DateTime)
    (cookie : Record)
    : Type 0 where
  pub receivable : IsReceivable cookie
  pub accepted : first_refusal rules request [] (printed_as cookie)
      (printed_kept rules request now cookie) ≡ None

-- A browser stores the text of such a cookie, if it overlays no secure-only cookie.
abbrev pub IsPrintedStored : Type 0
IsPrintedStored =
    (rules : List Rule) (request : RequestView) (now : DateTime) (store : CookieStore)
    (cookie : Record) → IsStorable rules request now cookie
    → IsUncovered request (lasting now store) (escape cookie.name)
    → kept_after_text rules request now (cookie_text true false cookie) store
    ≡ lasting now (kept_with (printed_kept rules request now cookie) (lasting now store))

-- ---- what is sent back

-- the expiry is after now in whole seconds, or there is none
abbrev pub is_after_now : Option Expiration → DateTime → Bool
is_after_now (Some (expiration.DateTime moment)) now =
    int_lt (civil_nanos now) (civil_nanos (whole_second moment))
is_after_now _ now = true

-- the whole seconds of the age are above 0, or there is no age and the expiry is after now
abbrev pub is_to_last : Option ℤ → Option Expiration → DateTime → Bool
is_to_last (Some age) expires now = int_lt (pos 0) (int_div age (pos 1000000000))
is_to_last None expires now = is_after_now expires now

-- a request in the cookie's scope, over a connection that it may be sent over
pub record IsSendable (rules : List Rule) (request : RequestView) (now : DateTime)
    (cookie : Record)
    : Type 0 where
  pub reached : is_meant_for request (printed_kept rules request now cookie) ≡ true
  pub secure : request.is_secure || not (prints_secure cookie) ≡ true
  pub permitted : allows request (printed_enforcement cookie.same_site) ≡ true

-- From 1601 on a live cookie is sent with such a request, however far off its expiry is, and one of age zero is expired.
abbrev pub IsPrintedSent : Type 0
IsPrintedSent =
    (rules : List Rule) (request : RequestView) (now : DateTime) (cookie : Record)
    → pos 1601 ≤ℤ now.date.year
    → (IsSendable rules request now cookie → is_to_last cookie.max_age cookie.expires now ≡ true
    → is_sent request now (printed_kept rules request now cookie) ≡ true)
    × (cookie.max_age ≡ Some (pos 0)
    → lasts (printed_kept rules request now cookie).expiry now ≡ false)
