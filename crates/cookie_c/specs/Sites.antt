-- The site that C's settings stand for, and a call on it in a second.
use Rattle.std.specs.Prelude.{◌≡◌, ℕ, pos, ◌<◌, ◌≤◌, ◌⊎◌, Option, Some, None, true, IsUtf8}
use Rattle.jiff.specs.Types.{DateTime}
use Rattle.jiff.specs.Words.{civil_nanos, nanos_of_seconds}
use Rattle.cookie.specs.AttributeValues.{FitsField}
use Rattle.cookie.specs.CookieOf.{cookie_of}
use Rattle.cookie.specs.Record.{Record}
use Rattle.cookie.specs.declared.ParseError.{ParseError}
use Rattle.cookie_session.specs.declared.sessions.Sessions.{Sessions}
use Rattle.cookie_c.specs.Codes.{refusal_status}
use Rattle.cookie_c.specs.Decoded.{IsDecodingRefusal}
use Rattle.cookie_c.specs.Handles.{IsKept, IsPut, site_in}
use Rattle.cookie_c.specs.Keys.{AreKeys, HasKeys}
use Rattle.cookie_c.specs.declared.sessions.SessionSettings.{SessionSettings}
use Rattle.cookie_c.specs.declared.sessions.Sessions.{Sessions as Handle}
use Rattle.cookie_c.specs.declared.sessions.site.Site.{Site}
use Rattle.cookie_c.specs.declared.status.Status.{Status}
use Rattle.cookie_c.specs.declared.status.Status.TheVariants as status

-- what a handle has as a site
abbrev pub site_of : Handle → Option Site
site_of sessions = site_in sessions.handle.held.content

-- the site has these keys, this cookie, which fits a header, and these limits
pub record IsSiteOf (settings : SessionSettings) (site : Site) : Type 0 where
  pub keys : AreKeys settings.keys.now site.keys
  pub cookie : cookie_of true settings.cookie.now ≡ Some site.cookie.fields
  pub fits : FitsField site.cookie.fields
  pub lifetime : site.lifetime ≡ settings.lifetime
  pub idle : site.idle ≡ settings.idle

-- the settings have keys and a text
abbrev pub CanBeSite : SessionSettings → Type 0
CanBeSite settings = HasKeys settings.keys.now × IsUtf8 settings.cookie.now

-- why the settings are refused: the keys come first, then the cookie's text, and then its path and its domain, which have
-- to fit a header; or memory ran out
abbrev pub IsUnusable : SessionSettings → Status → Type 0
IsUnusable settings why =
    ((why ≡ status.KeyTooShort) × ¬ HasKeys settings.keys.now)
    ⊎ (((why ≡ status.NotUtf8) × HasKeys settings.keys.now × ¬ IsUtf8 settings.cookie.now)
    ⊎ ((CanBeSite settings × (error : ParseError)
    × IsDecodingRefusal settings.cookie.now error × (why ≡ refusal_status error))
    ⊎ ((CanBeSite settings × (cookie : Record)
    × (cookie_of true settings.cookie.now ≡ Some cookie) × (¬ FitsField cookie)
    × (why ≡ status.InvalidValue))
    ⊎ (CanBeSite settings × (why ≡ status.OutOfMemory)))))

-- the handle has the settings' site, or the settings are refused and it is as before
abbrev pub MakesSite : SessionSettings → Status → Option Site → Option Site → Type 0
MakesSite settings answer old new =
    ((site : Site) × IsSiteOf settings site × IsPut site answer old new)
    ⊎ ((why : Status) × IsUnusable settings why × IsKept why answer old new)

-- the last second that a call takes: 9999-12-30 22:00:00 in UTC
abbrev pub last_second : ℕ
last_second = 253402207200

-- the time is that many whole seconds after 1970-01-01 00:00:00
abbrev pub IsAtSecond : ℕ → DateTime → Type 0
IsAtSecond second time = civil_nanos time ≡ nanos_of_seconds (pos second)

-- the library's sessions have the parts of the site
pub record AreOf (site : Site) (sessions : Sessions) : Type 0 where
  pub keys : sessions.keys.now ≡ site.keys
  pub cookie : sessions.cookie.now ≡ site.cookie
  pub lifetime : sessions.lifetime ≡ site.lifetime
  pub idle : sessions.idle ≡ site.idle

-- A call at a time in whole seconds: a second that is past the last is refused, and of the time of another one this
-- holds.
pub record AtSecond (second : ℕ) (Holds : DateTime → Type 0) (Refuses : Status → Type 0)
    : Type 0 where
  pub no_date : last_second < second → Refuses status.NoDate
  pub dated : second ≤ last_second → (time : DateTime) × IsAtSecond second time × Holds time

-- `AtSecond` for a call on a site: a handle without a site refuses first
abbrev pub AtSite : Option Site → ℕ → (Sessions → DateTime → Type 0) → (Status → Type 0) → Type 0
AtSite None second Holds Refuses = Refuses status.NoSessions
AtSite (Some site) second Holds Refuses =
    AtSecond second (λ time. (sessions : Sessions) × AreOf site sessions × Holds sessions time)
    Refuses
