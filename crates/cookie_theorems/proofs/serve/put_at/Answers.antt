use Rattle.std.proofs.Common.{Some, sym, arith}
use Rattle.std.proofs.lemmas.List.{set_past}
use Rattle.cookie_theorems.proofs.serve.put_at.Goals as goal

pub returns-then-place-len : goal.returns-then-place-len
returns-then-place-len c = sym (set_past c.args.visits.now.items c.args.place (Some c.args.handling) (omega (arith, c.len.ensures, c.if-place-len.true)))
