use Rattle.std.proofs.Common.{arith, subst, to_z-of_z}
use Rattle.sqlite.specs.Held.{state}
use Rattle.sqlite.specs.State.{HasCleanDisk}
use Rattle.session_revocations.specs.Held.{rows_of}
use Rattle.session_revocations.specs.Revoked.{IsExtended}
use Rattle.session_revocations.proofs.StateLemmas.{rows_unchanged}
use Rattle.session_revocations.proofs.statements.revoke.Goals as goal

pub returns-clause-revoked : goal.returns-clause-revoked
returns-clause-revoked g c clean live =
    let old = state g.S.Store c.args.conn.now in
    let mid = state g.S.Store c.find.new.conn in
    let new = state g.S.Store c.extend.new.conn in
    let then : HasCleanDisk mid = omega (arith, c.extend.ensures.crash.clean, clean) in
    let extended = rw (to_z-of_z c.ranges.until) at (c.in_ok-extend.ensures.revoked clean live) in
    subst (λ rows. IsExtended rows c.args.id.now c.args.until (rows_of new)) (rows_unchanged old mid (c.in_ok-was_revoked.ensures.same then)) extended
