-- The texts of a jar's refusals.
use Rattle.std.specs.Prelude.{ℕ, List, codes}
use Rattle.cookie.specs.declared.jar_error.JarError.{JarError}
use Rattle.cookie.specs.declared.jar_error.JarError.TheVariants as refusal

-- the text of a refusal
abbrev pub refusal_text : JarError → List ℕ
refusal_text refusal.OutOfMemory = codes "out of memory"
refusal_text refusal.TooLong = codes "the value or name is too long to seal"
refusal_text refusal.Generator = codes "the generator failed"
