use Rattle.cookie_core.proofs.SpanLemmas.{StandsIn-all}
use Rattle.cookie_core.proofs.part.Part.all.Goals as goal

pub invariant_of-result : goal.invariant_of-result
invariant_of-result c = record { stands = StandsIn-all c.args.text.now c.utf8.text }
