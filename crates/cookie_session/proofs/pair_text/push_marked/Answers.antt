use Rattle.std.proofs.Common.{◌++◌, ap, append_assoc, append-nil, string_bytes, sym, ◌∙◌}
use Rattle.std.proofs.lemmas.List.{nil_from_length}
use Rattle.cookie_session.specs.Form.{escape_marks}
use Rattle.cookie_session.proofs.MarkLemmas.{escape_marks-append, escape_marks-nil}
use Rattle.cookie_session.proofs.pair_text.push_marked.Goals as goal

pub loop-character-preserved : goal.loop-character-preserved
loop-character-preserved c =
    rw (c.in_ok-push_character.ensures, append_assoc, ← escape_marks-append, ← c.in-Some.ensures.steps.0) c.loop-character.invariant

pub returns : goal.returns
returns c =
    sym (append-nil _) ∙ ap (λ rest. string_bytes c.loop-character.form ++ rest) (sym escape_marks-nil)
    ∙ ap (λ rest. string_bytes c.loop-character.form ++ escape_marks rest) (sym (nil_from_length _ c.in-None.ensures.steps.0.0)) ∙ c.loop-character.invariant
