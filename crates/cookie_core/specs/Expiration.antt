-- What an expiry says (RFC 6265 4.1.2.1).
use Rattle.std.specs.Prelude.{int_lt, Option, Some, None, if◌then◌else◌}
use Rattle.std.proofs.Common.{lit<}
use Rattle.jiff.specs.Types.{DateTime}
use Rattle.jiff.specs.Words.{civil_nanos}
use Rattle.cookie_date.specs.Moments.{last_moment}
use Rattle.cookie_core.specs.declared.expiration.Expiration.{Expiration}
use Rattle.cookie_core.specs.declared.expiration.Expiration.TheVariants as expiration

-- the date and time, if it is one
abbrev pub datetime_of : Expiration → Option DateTime
datetime_of (expiration.DateTime moment) = Some moment
datetime_of expiration.Session = None

-- the expiry at this date and time, or at the session's end if there is none
abbrev pub expiration_of : Option DateTime → Expiration
expiration_of (Some moment) = expiration.DateTime moment
expiration_of None = expiration.Session

-- the last expiry that a cookie keeps, 9999-12-31 23:59:59.999999
unfoldable pub last_expiry : DateTime
last_expiry =
    record last_moment {
      time = record last_moment.time { subsec_nanosecond = 999_999_000; subsec_in = lit< tt };
    }

-- the date-time, or the last expiry if it is later
abbrev pub capped_moment : DateTime → DateTime
capped_moment moment =
    if int_lt (civil_nanos last_expiry) (civil_nanos moment) then last_expiry else moment

-- the expiry that a cookie keeps: the session's end, or the lesser of a date-time and the last expiry
abbrev pub capped_expiry : Expiration → Expiration
capped_expiry (expiration.DateTime moment) = expiration.DateTime (capped_moment moment)
capped_expiry expiration.Session = expiration.Session

-- the same date-time without its fraction of a second
abbrev pub whole_second : DateTime → DateTime
whole_second moment =
    record moment { time = record moment.time { subsec_nanosecond = 0; subsec_in = lit< tt } }
