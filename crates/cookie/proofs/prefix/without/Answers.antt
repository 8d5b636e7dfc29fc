use Rattle.std.proofs.Common.{sym}
use Rattle.cookie.proofs.PrefixLemmas.{stripped}
use Rattle.cookie.proofs.prefix.without.Goals as goal

pub returns : goal.returns
returns c = stripped c.args.prefix.now c.args.name.now c.strip_prefix.result (sym c.if-is_empty.ensures) c.strip_prefix.ensures.cases
