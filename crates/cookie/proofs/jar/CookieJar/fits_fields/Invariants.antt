use Rattle.std.proofs.Common.{All, ◌↔◌}
use Rattle.cookie.specs.AttributeValues.{AllFitFields, FitsField}
use Rattle.cookie.proofs.jar.CookieJar.fits_fields.Given as goal

-- the cookies that are left decide
abbrev pub invariant-loop-cookie : goal.invariant-loop-cookie
invariant-loop-cookie l = All FitsField l.cookie-iterator ↔ AllFitFields l.self.delta
