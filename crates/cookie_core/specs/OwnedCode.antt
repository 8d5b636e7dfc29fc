-- Mirrors private code: what becomes of an outcome that gets texts of its own.
use Rattle.std.specs.Prelude.{◌≡◌, Result, Ok, Err}
use Rattle.cookie_core.specs.Record.{CookieView, no_raw_forms}
use Rattle.cookie_core.specs.declared.parse_error.ParseError.{ParseError}
use Rattle.cookie_core.specs.declared.parse_error.ParseError.TheVariants as refusal

-- the same refusal, or the same record that borrows nothing, unless memory ran out
abbrev pub IsMadeOwn : Result CookieView ParseError → Result CookieView ParseError → Type 0
IsMadeOwn (Err error) outcome = outcome ≡ Err error
IsMadeOwn (Ok cookie) (Err error) = error ≡ refusal.OutOfMemory
IsMadeOwn (Ok cookie) (Ok owned) = owned ≡ record { fields = cookie.fields; raw = no_raw_forms }
