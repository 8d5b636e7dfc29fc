-- How long a browser keeps the cookie of a session that is saved for C (RFC 6265 4.1.2.1, 4.1.2.2).
use Rattle.std.specs.Prelude.{◌≡◌, ℕ, ◌+◌, ◌==◌, min, Option, Some, None, if◌then◌else◌}
use Rattle.jiff.specs.Types.{DateTime}
use Rattle.cookie.specs.Expiration.{capped_expiry}
use Rattle.cookie.specs.Record.{Record}
use Rattle.cookie.specs.declared.Expiration.TheVariants as expiration
use Rattle.cookie_session.specs.Seconds.{from_zero}
use Rattle.cookie_c.specs.Numbers.{whole_seconds}
use Rattle.cookie_c.specs.Sites.{IsAtSecond, last_second}
use Rattle.cookie_c.specs.declared.sessions.lasting.Lasting.{Lasting}
use Rattle.cookie_c.specs.declared.sessions.lasting.Lasting.TheVariants as lasting
use Rattle.cookie_c.specs.declared.status.Status.{Status}
use Rattle.cookie_c.specs.declared.status.Status.TheVariants as status

-- what a number says, which callers in C know
abbrev pub lasting_of : ℕ → Option Lasting
lasting_of number =
    if number == 0 then Some lasting.MaxAge
    else if number == 1 then Some lasting.MaxAgeAndExpires
    else if number == 2 then Some lasting.UntilClosed else None

-- this holds of what a number says, or it says nothing and the call is refused
abbrev pub AsLasting : Option Lasting → (Lasting → Type 0) → (Status → Type 0) → Type 0
AsLasting None Holds Refuses = Refuses status.BadAttribute
AsLasting (Some way) Holds Refuses = Holds way

-- the second in which the cookie's `Max-Age` is over that counts from this one, or the last one that a call takes
abbrev pub end_second : ℕ → Record → ℕ
end_second now cookie = min (now + from_zero (whole_seconds cookie.max_age)) last_second

-- The cookie that is given of one that is saved in this second: with its `Max-Age`; with `Expires` too, at the end of that
-- age; or with neither.
abbrev pub IsKept : Lasting → ℕ → Record → Record → Type 0
IsKept lasting.MaxAge now cookie given = given ≡ cookie
IsKept lasting.MaxAgeAndExpires now cookie given =
    (moment : DateTime) × IsAtSecond (end_second now cookie) moment
    × (given ≡ record cookie { expires = Some (capped_expiry (expiration.DateTime moment)) })
IsKept lasting.UntilClosed now cookie given = given ≡ record cookie { max_age = None }
