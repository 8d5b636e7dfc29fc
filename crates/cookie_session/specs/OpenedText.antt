-- Mirrors private code: a text that a ring opens, decoded once for all its keys (src/decoded_text.rt, src/opened_text.rt).
use Rattle.std.specs.Prelude.{ℕ, List, Option, None, Some, string_bytes}
use Rattle.cookie_session.specs.declared.decoded_text.DecodedText.{DecodedText}
use Rattle.cookie_session.specs.declared.decoded_text.DecodedText.TheVariants as decoded
use Rattle.cookie_session.specs.declared.opened_text.OpenedText.{OpenedText}

-- what it is sealed for, if for more than a name
abbrev pub purpose_of : DecodedText → Option (List ℕ)
purpose_of (decoded.Named text) = None
purpose_of (decoded.For purpose text) = Some purpose.now

abbrev pub text_of : DecodedText → List ℕ
text_of (decoded.Named text) = text
text_of (decoded.For purpose text) = text

-- the place of the key, and the value that it opened
abbrev pub text_opened_at : OpenedText → ℕ × List ℕ
text_opened_at opened = (opened.place, string_bytes opened.value)
