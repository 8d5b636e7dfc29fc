use Rattle.std.proofs.Common.{◌≡◌, ◌++◌, string_bytes}
use Rattle.std.specs.Str.Iter.{chars_rest}
use Rattle.cookie_session.specs.Form.{escape_marks}
use Rattle.cookie_session.proofs.pair_text.push_marked.Given as goal

-- what is written, with the rest, is the whole
abbrev pub invariant-loop-character : goal.invariant-loop-character
invariant-loop-character l = string_bytes l.form ++ escape_marks (chars_rest l.character-iterator) ≡ string_bytes l.fn.form ++ escape_marks l.fn.text
