-- The texts of a refusal to save a session, and which one it is of a jar's refusal.
use Rattle.std.specs.Prelude.{ℕ, List, ◌++◌, codes, ⊤}
use Rattle.std.specs.Fmt.{decimal}
use Rattle.cookie.specs.declared.jar_error.JarError.{JarError}
use Rattle.cookie.specs.declared.jar_error.JarError.TheVariants as jar_refusal
use Rattle.cookie_session.specs.declared.session_error.SessionError.{SessionError}
use Rattle.cookie_session.specs.declared.session_error.SessionError.TheVariants as refusal

-- the text of a refusal
abbrev pub session_refusal_text : SessionError → List ℕ
session_refusal_text refusal.OutOfMemory = codes "out of memory"
session_refusal_text refusal.Prefix =
    codes "the cookie lacks what a browser asks of the prefix of its name"
session_refusal_text refusal.Over = codes "the session is over"
session_refusal_text (refusal.TooLarge count) =
    codes "the cookie is too large: expected <= 4096 bytes, got "
    ++ (decimal count ++ codes " bytes")
session_refusal_text refusal.TooLong = codes "the value or name is too long to seal"
session_refusal_text refusal.Generator = codes "the generator failed"

-- which one it is of a jar's refusal
abbrev pub refusal_of : JarError → SessionError
refusal_of jar_refusal.OutOfMemory = refusal.OutOfMemory
refusal_of jar_refusal.TooLong = refusal.TooLong
refusal_of jar_refusal.Generator = refusal.Generator

-- a refusal before the session's cookie is encrypted
abbrev pub IsBareRefusal : SessionError → Type 0
IsBareRefusal refusal.OutOfMemory = ⊤
IsBareRefusal refusal.Prefix = ⊤
IsBareRefusal refusal.Over = ⊤
IsBareRefusal (refusal.TooLarge count) = ⊥
IsBareRefusal refusal.TooLong = ⊥
IsBareRefusal refusal.Generator = ⊥
