-- The same texts tie.
use Rattle.std.proofs.Common.{sym, ◌∙◌}
use Rattle.cookie_agent.proofs.SumLemmas.{summed_same}
use Rattle.cookie_agent.proofs.summed.Summed.compare.Goals as goal

pub returns-then-is_same : goal.returns-then-is_same
returns-then-is_same c = sym (summed_same c.args.self.now c.args.other.now (sym c.is_same.ensures ∙ c.if-is_same.true))
