use Rattle.std.proofs.Common.{◌≡◌, length}
use Rattle.cookie_core.specs.SentNames.{has_printed_escapes}
use Rattle.cookie_core.proofs.sent_name.has_printed_escapes.Given as goal

abbrev pub invariant-loop-rest : goal.invariant-loop-rest
invariant-loop-rest l = has_printed_escapes l.rest ≡ has_printed_escapes l.text

abbrev pub decreases-loop-rest : goal.decreases-loop-rest
decreases-loop-rest l = length l.rest
