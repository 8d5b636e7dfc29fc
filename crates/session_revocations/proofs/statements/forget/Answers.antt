use Rattle.std.proofs.Common.{pos, ◌+ℤ◌, arith, subst, to_z-of_z}
use Rattle.sqlite.proofs.StateLemmas.{survives_then}
use Rattle.sqlite.specs.Held.{state}
use Rattle.sqlite.specs.State.{HasCleanDisk}
use Rattle.session_revocations.specs.Held.{rows_of}
use Rattle.session_revocations.specs.Revoked.{IsPruned}
use Rattle.session_revocations.specs.Rowids.{HasRowids}
use Rattle.session_revocations.proofs.StateLemmas.{rows_unchanged}
use Rattle.session_revocations.proofs.statements.forget.Goals as goal

pub returns-clause-forgotten : goal.returns-clause-forgotten
returns-clause-forgotten g c clean live =
    let old = state g.S.Store c.args.conn.now in
    let mid = state g.S.Store c.has_rowids.new.conn in
    let new = state g.S.Store c.delete.new.conn in
    let then : HasCleanDisk mid = omega (arith, c.delete.ensures.crash.clean, clean) in
    let same = rows_unchanged old mid (c.in_ok-has_rowids.ensures.same then) in
    let own : HasRowids (rows_of old) = c.in_ok-has_rowids.ensures.exact then c.if-not-branch.false in
    let deleted = rw (to_z-of_z c.ranges.now) at (c.in_ok-delete.ensures.deleted clean live) in
    subst (λ rows. HasRowids rows → IsPruned rows (c.args.now +ℤ pos 1) (rows_of new)) same deleted own

pub returns-clause-crash : goal.returns-clause-crash
returns-clause-crash g c =
    let old = state g.S.Store c.args.conn.now in
    let mid = state g.S.Store c.has_rowids.new.conn in
    let new = state g.S.Store c.delete.new.conn in
    let deletes = rw (to_z-of_z c.ranges.now) at c.delete.ensures.crash in
    survives_then old mid new _ _ _ (λ clean db none live. absurd (none live)) (λ clean db one live.
    let then : HasCleanDisk mid = omega (arith, c.delete.ensures.crash.clean, clean) in
    let unchanged = c.in_ok-has_rowids.ensures.same then in
    let own : HasRowids (rows_of old) = c.in_ok-has_rowids.ensures.exact then c.if-not-branch.false in
    subst (λ rows. HasRowids rows → IsPruned rows (c.args.now +ℤ pos 1) (db 0)) (rows_unchanged old mid unchanged) (one unchanged.0.is_open) own)
    c.has_rowids.ensures.crash deletes

pub returns-clause-opened : goal.returns-clause-opened
returns-clause-opened g c clean live =
    c.has_rowids.ensures.opened (omega (arith, c.delete.ensures.crash.clean, clean)) (c.delete.ensures.opened clean live)

pub returns-in_err-delete-clause-opened : goal.returns-in_err-delete-clause-opened
returns-in_err-delete-clause-opened g c clean live =
    c.has_rowids.ensures.opened (omega (arith, c.delete.ensures.crash.clean, clean)) (c.delete.ensures.opened clean live)
