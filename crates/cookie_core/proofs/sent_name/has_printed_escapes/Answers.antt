use Rattle.std.proofs.Common.{sym, ◌∙◌}
use Rattle.cookie_core.proofs.SentNameLemmas.{short_printed}
use Rattle.cookie_core.proofs.sent_name.has_printed_escapes.Goals as goal

pub returns : goal.returns
returns c = sym (short_printed c.loop-rest.rest.now c.in_default.len_below) ∙ c.loop-rest.invariant
