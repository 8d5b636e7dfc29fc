use Rattle.std.proofs.Common.{arith, to_z-of_z}
use Rattle.sqlite.proofs.StateLemmas.{survives_weaker}
use Rattle.sqlite.specs.Held.{state}
use Rattle.sqlite.specs.State.{HasCleanDisk}
use Rattle.session_revocations.proofs.AddLemmas.{added, crash_adds, kept, still}
use Rattle.session_revocations.proofs.StateLemmas.{executes_open}
use Rattle.session_revocations.proofs.statements.add.Goals as goal

pub returns-clause-added : goal.returns-clause-added
returns-clause-added g c clean =
    let old = state g.S.Store c.args.conn.now in
    let new = state g.S.Store c.execute.new.self in
    let was : HasCleanDisk old = omega (arith, c.execute.ensures.survives.clean, clean) in
    added old new c.args.id.now c.args.until c.execute.result (c.requires was) (rw (c.params-to_sql.ensures, c.params-to_sql-2.ensures, to_z-of_z c.ranges.until) at (c.execute.ensures.runs clean))

pub returns-clause-still : goal.returns-clause-still
returns-clause-still g c =
    let old = state g.S.Store c.args.conn.now in
    let new = state g.S.Store c.execute.new.self in
    still old new c.args.id.now c.args.until c.execute.result
    (λ clean. c.requires (omega (arith, c.execute.ensures.survives.clean, clean)))
    (λ clean. rw (c.params-to_sql.ensures, c.params-to_sql-2.ensures, to_z-of_z c.ranges.until) at (c.execute.ensures.runs clean))

pub returns-clause-kept : goal.returns-clause-kept
returns-clause-kept g c clean live =
    let old = state g.S.Store c.args.conn.now in
    let new = state g.S.Store c.execute.new.self in
    let was : HasCleanDisk old = omega (arith, c.execute.ensures.survives.clean, clean) in
    kept old new c.args.id.now c.args.until c.execute.result (c.requires was) (rw (c.params-to_sql.ensures, c.params-to_sql-2.ensures, to_z-of_z c.ranges.until) at (c.execute.ensures.runs clean)) live

pub returns-clause-crash : goal.returns-clause-crash
returns-clause-crash g c =
    let old = state g.S.Store c.args.conn.now in
    let new = state g.S.Store c.execute.new.self in
    let survives = rw (c.params-to_sql.ensures, c.params-to_sql-2.ensures, to_z-of_z c.ranges.until) at c.execute.ensures.survives in
    survives_weaker old new _ _ (λ clean db commits live. crash_adds old c.args.id.now c.args.until db (c.requires (omega (arith, c.execute.ensures.survives.clean, clean)) live) commits) survives

pub returns-clause-opened : goal.returns-clause-opened
returns-clause-opened g c clean =
    executes_open _ _ (state g.S.Store c.args.conn.now) (state g.S.Store c.execute.new.self) c.execute.result (c.execute.ensures.runs clean)
