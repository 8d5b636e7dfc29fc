-- The types of the lower crates that clauses see.
pub use Rattle.cookie_core.specs.declared.expiration.Expiration.{Expiration}
pub use Rattle.cookie_core.specs.declared.expiration.Expiration.TheVariants.{DateTime as AtDateTime, Session}
pub use Rattle.cookie_core.specs.declared.guards.Guards.{Guards}
pub use Rattle.cookie_core.specs.declared.parse_error.ParseError.{ParseError}
pub use Rattle.cookie_core.specs.declared.parse_error.ParseError.TheVariants.{MissingPair, EmptyName}
pub use Rattle.cookie_core.specs.declared.parse_error.ParseError.TheVariants.{Utf8Error, OutOfMemory}
pub use Rattle.cookie_core.specs.declared.same_site.SameSite.{SameSite}
pub use Rattle.cookie_core.specs.declared.same_site.SameSite.TheVariants.{Strict, Lax, None as NoSameSite}
