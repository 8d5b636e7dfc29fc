use Rattle.std.proofs.Common.{sym, subst}
use Rattle.cookie_core.specs.Parts.{part_text}
use Rattle.cookie_core.specs.Trim.{IsTrimmed}
use Rattle.cookie_core.proofs.part.Part.trim.Goals as goal

pub returns-clause-trimmed : goal.returns-clause-trimmed
returns-clause-trimmed c =
    subst (IsTrimmed (part_text c.args.self)) (sym c.inner.ensures.text) (rw c.text.ensures at c.trim.ensures.trimmed)
