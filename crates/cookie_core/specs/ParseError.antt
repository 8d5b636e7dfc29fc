-- The texts of the reader's refusals.
use Rattle.std.specs.Prelude.{ℕ, List, codes}
use Rattle.cookie_core.specs.declared.parse_error.ParseError.{ParseError}
use Rattle.cookie_core.specs.declared.parse_error.ParseError.TheVariants as refusal

-- the text of a refusal
abbrev pub error_text : ParseError → List ℕ
error_text refusal.MissingPair = codes "the cookie is missing a name/value pair"
error_text refusal.EmptyName = codes "the cookie's name is empty"
error_text (refusal.Utf8Error error) =
    codes "decoding the cookie's name or value resulted in invalid UTF-8"
error_text refusal.OutOfMemory = codes "memory ran out while reading the cookie"
