use Rattle.std.proofs.Common.{◌==◌, ap, ◌∙◌}
use Rattle.std.specs.List.{before_first}
use Rattle.cookie_core.specs.Parts.{part_text}
use Rattle.cookie_core.proofs.SentNameLemmas.{before_mark}
use Rattle.cookie_core.proofs.sent_name.before_equals.Goals as goal

pub returns : goal.returns
returns c =
    c.text.ensures
    ∙ before_mark part_text (part_text c.all.result) (part_text c.cut.result.0) c.cut.ensures.before c.cut.result.1 c.cut.ensures.cut
    ∙ ap (before_first (λ byte. byte == 61)) c.all.ensures.text
