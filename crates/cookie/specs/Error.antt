-- The one error that `?` makes of the errors of a text, of a key, of a jar and of its printing, and its texts.
use Rattle.std.specs.Prelude.{ℕ, List, codes}
use Rattle.cookie_core.specs.ParseError.{error_text}
use Rattle.cookie_core.specs.declared.parse_error.ParseError.{ParseError}
use Rattle.cookie_core.specs.declared.parse_error.ParseError.TheVariants as reading
use Rattle.cookie.specs.JarError.{refusal_text}
use Rattle.cookie.specs.KeyError.{key_refusal_text}
use Rattle.cookie.specs.TextsError.{texts_refusal_text}
use Rattle.cookie.specs.declared.error.Error.{Error}
use Rattle.cookie.specs.declared.error.Error.TheVariants as failure
use Rattle.cookie.specs.declared.jar_error.JarError.{JarError}
use Rattle.cookie.specs.declared.jar_error.JarError.TheVariants as refusal
use Rattle.cookie.specs.declared.texts_error.TextsError.{TextsError}
use Rattle.cookie.specs.declared.texts_error.TextsError.TheVariants as unprinted

-- what it is of a text's refusal: a case of its own, or out of memory
abbrev pub parse_failure : ParseError → Error
parse_failure reading.OutOfMemory = failure.OutOfMemory
parse_failure error = failure.Parse error

-- what it is of a jar's refusal: a case of its own, or out of memory
abbrev pub jar_failure : JarError → Error
jar_failure refusal.OutOfMemory = failure.OutOfMemory
jar_failure error = failure.Jar error

-- what it is of a refusal to print a jar's changes: the case of the same name
abbrev pub texts_failure : TextsError → Error
texts_failure unprinted.OutOfMemory = failure.OutOfMemory
texts_failure unprinted.InvalidValue = failure.InvalidValue

-- its text: the text of the error that it was made of
abbrev pub failure_text : Error → List ℕ
failure_text failure.OutOfMemory = codes "out of memory"
failure_text (failure.Parse error) = error_text error
failure_text (failure.Key error) = key_refusal_text error
failure_text (failure.Jar error) = refusal_text error
failure_text failure.InvalidValue = texts_refusal_text unprinted.InvalidValue
