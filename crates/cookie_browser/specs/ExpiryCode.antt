-- Mirrors private code: when a stored cookie expires, as the code keeps it.
use Rattle.std.specs.Prelude.{ℤ, ◌+ℤ◌, Option, Some, None}
use Rattle.jiff.specs.Words.{civil_nanos, signed_nanos}
use Rattle.cookie_browser.specs.declared.expiry.Expiry.{Expiry}
use Rattle.cookie_browser.specs.declared.expiry.Expiry.TheVariants.{Session, At, After}

-- the time in nanoseconds, if there is one
abbrev pub expiry_time : Expiry → Option ℤ
expiry_time Session = None
expiry_time (At moment) = Some (civil_nanos moment)
expiry_time (After moment age) = Some (civil_nanos moment +ℤ signed_nanos age)
