-- The texts of a refusal to print a jar's changes.
use Rattle.std.specs.Prelude.{ℕ, List, codes}
use Rattle.cookie.specs.declared.texts_error.TextsError.{TextsError}
use Rattle.cookie.specs.declared.texts_error.TextsError.TheVariants as refusal

-- the text of a refusal
abbrev pub texts_refusal_text : TextsError → List ℕ
texts_refusal_text refusal.OutOfMemory = codes "out of memory"
texts_refusal_text refusal.InvalidValue = codes "a cookie's path or domain is no attribute value"
