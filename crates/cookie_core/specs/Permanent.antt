-- The cookie that a client keeps for twenty years (RFC 6265 4.1.2.1, 4.1.2.2).
use Rattle.std.specs.Prelude.{Some, pos}
use Rattle.jiff.specs.Types.{DateTime as CivilDateTime}
use Rattle.cookie_date.specs.Moments.{days_later}
use Rattle.cookie_core.specs.Attributes.{nanos_of_seconds}
use Rattle.cookie_core.specs.Expiration.{capped_expiry}
use Rattle.cookie_core.specs.Record.{Record}
use Rattle.cookie_core.specs.declared.expiration.Expiration.TheVariants.{DateTime}

-- the cookie with an age of twenty years of 365 days, and an expiry that many days later, or the last one
abbrev pub permanent : CivilDateTime → Record → Record
permanent now cookie =
    record cookie {
      max_age = Some (nanos_of_seconds 630_720_000);
      expires = Some (capped_expiry (DateTime (days_later now (pos 7300))));
    }
