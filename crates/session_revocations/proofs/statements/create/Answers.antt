use Rattle.std.proofs.Common.{arith}
use Rattle.sqlite.specs.Held.{state}
use Rattle.session_revocations.proofs.CreateLemmas.{makes}
use Rattle.session_revocations.proofs.statements.create.Goals as goal

pub returns : goal.returns
returns g c clean =
    let old = state g.S.Store c.args.conn.now in
    let new = state g.S.Store c.execute.new.self in
    makes old new c.execute.result (c.requires (omega (arith, c.execute.ensures.survives.clean, clean))) (c.execute.ensures.runs clean)
