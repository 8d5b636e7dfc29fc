-- The cookie that tells a client to drop a cookie (RFC 6265 5.3, step 11, and 3.1).
use Rattle.std.specs.Prelude.{[], Some, pos, neg_ℤ}
use Rattle.jiff.specs.Types.{DateTime as CivilDateTime}
use Rattle.cookie_date.specs.Moments.{days_later}
use Rattle.cookie_core.specs.Record.{Record}
use Rattle.cookie_core.specs.declared.expiration.Expiration.TheVariants.{DateTime}

-- the cookie with the empty value, the age zero and an expiry 365 days ago
abbrev pub removal : CivilDateTime → Record → Record
removal now cookie =
    record cookie {
      value = [];
      max_age = Some (pos 0);
      expires = Some (DateTime (days_later now (neg_ℤ (pos 365))));
    }
