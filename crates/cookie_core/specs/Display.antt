-- How a cookie is to be printed (RFC 6265 4.1.1).
use Rattle.std.specs.Prelude.{Bool}
use Rattle.cookie_core.specs.Record.{Record}

-- the cookie's record, whether its name and value are escaped, and whether its attributes are left out
pub record DisplayView : Type 0 where
  pub fields : Record
  pub is_encoded : Bool
  pub is_stripped : Bool
