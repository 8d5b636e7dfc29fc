use Rattle.std.proofs.Common.{◌≡◌, false, ap, sym, ◌∙◌}
use Rattle.std.specs.List.{list_any}
use Rattle.std.proofs.Output.{has_written_of_eq}
use Rattle.cookie_core.specs.Escapes.{escape, is_escaped}
use Rattle.cookie_core.proofs.EscapeLemmas.{percent_encode_is}
use Rattle.cookie_core.proofs.EscapeTextLemmas.{escape-same}
use Rattle.cookie_core.proofs.encoding.EncodedTextDisplay.fmt.Goals as goal

pub returns-clause-writes : goal.returns-clause-writes
returns-clause-writes g c =
    λ plain ok. has_written_of_eq _ _ _ _ _ (c.utf8_percent_encode-encoded.ensures.text ∙ percent_encode_is _ ∙ ap escape c.self.view_is)
    (c.fmt.ensures.writes plain ok)

pub returns-then-not-has_escaped_byte-clause-writes : goal.returns-then-not-has_escaped_byte-clause-writes
returns-then-not-has_escaped_byte-clause-writes g c =
    let text = c.self.inside.text.now in
    let none : list_any is_escaped text ≡ false = sym c.has_escaped_byte.ensures ∙ c.if-not-has_escaped_byte.true in
    λ plain ok. has_written_of_eq _ _ _ _ _ (sym (escape-same text none) ∙ ap escape c.self.view_is) (c.write_str.ensures.writes plain ok)
