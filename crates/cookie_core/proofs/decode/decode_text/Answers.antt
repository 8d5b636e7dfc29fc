use Rattle.std.proofs.lemmas.Str.{IsUtf8-string_bytes}
use Rattle.cookie_core.proofs.decode.decode_text.Goals as goal

pub returns-in-Ok-from_utf8-clause-utf8 : goal.returns-in-Ok-from_utf8-clause-utf8
returns-in-Ok-from_utf8-clause-utf8 c = IsUtf8-string_bytes c.in-Ok-from_utf8.text
