use Rattle.std.proofs.Common.{◌≡◌, true, arith, sym, subst, ◌∙◌, to_z-of_z}
use Rattle.sqlite.proofs.StateLemmas.{survives_then, survives_weaker}
use Rattle.sqlite.specs.Held.{state}
use Rattle.sqlite.specs.State.{HasCleanDisk}
use Rattle.session_revocations.specs.Held.{rows_of}
use Rattle.session_revocations.specs.Revoked.{IsExtended, is_among_until}
use Rattle.session_revocations.proofs.RowLemmas.{added_extends, stays_extends}
use Rattle.session_revocations.proofs.StateLemmas.{rows_unchanged}
use Rattle.session_revocations.proofs.statements.extend.Goals as goal

pub returns-then-branch-clause-revoked : goal.returns-then-branch-clause-revoked
returns-then-branch-clause-revoked g c clean live =
    let old = state g.S.Store c.args.conn.now in
    let mid = state g.S.Store c.find_until.new.conn in
    let exact = rw (to_z-of_z c.ranges.until) at (c.in_ok-find_until.ensures.exact clean) in
    let lasting : is_among_until (rows_of old) c.args.id.now c.args.until ≡ true = sym exact ∙ c.if-branch.true in
    let same = rows_unchanged old mid (c.in_ok-find_until.ensures.same clean) in
    subst (λ rows. IsExtended (rows_of old) c.args.id.now c.args.until rows) (sym same) (stays_extends (rows_of old) c.args.id.now c.args.until lasting)

pub returns-clause-revoked : goal.returns-clause-revoked
returns-clause-revoked g c clean live =
    let old = state g.S.Store c.args.conn.now in
    let mid = state g.S.Store c.find_until.new.conn in
    let new = state g.S.Store c.add.new.conn in
    let then : HasCleanDisk mid = omega (arith, c.add.ensures.crash.clean, clean) in
    let same = rows_unchanged old mid (c.in_ok-find_until.ensures.same then) in
    let added = rw (to_z-of_z c.ranges.until) at (c.in_ok-add.ensures.added clean live) in
    subst (λ rows. IsExtended rows c.args.id.now c.args.until (rows_of new)) same (added_extends (rows_of mid) (rows_of new) c.args.id.now c.args.until added)

pub returns-clause-crash : goal.returns-clause-crash
returns-clause-crash g c =
    let old = state g.S.Store c.args.conn.now in
    let mid = state g.S.Store c.find_until.new.conn in
    let new = state g.S.Store c.add.new.conn in
    let adds = rw (to_z-of_z c.ranges.until) at c.add.ensures.crash in
    survives_then old mid new _ _ _ (λ clean db none live. absurd (none live)) (λ clean db one live.
    let then : HasCleanDisk mid = omega (arith, c.add.ensures.crash.clean, clean) in
    let unchanged = c.in_ok-find_until.ensures.same then in
    subst (λ rows. IsExtended rows c.args.id.now c.args.until (db 0)) (rows_unchanged old mid unchanged) (added_extends (rows_of mid) (db 0) c.args.id.now c.args.until (one unchanged.0.is_open)))
    c.find_until.ensures.crash adds

pub returns-in_err-add-clause-crash : goal.returns-in_err-add-clause-crash
returns-in_err-add-clause-crash g c =
    let old = state g.S.Store c.args.conn.now in
    let mid = state g.S.Store c.find_until.new.conn in
    let new = state g.S.Store c.add.new.conn in
    let adds = rw (to_z-of_z c.ranges.until) at c.add.ensures.crash in
    survives_then old mid new _ _ _ (λ clean db none live. absurd (none live)) (λ clean db one live.
    let then : HasCleanDisk mid = omega (arith, c.add.ensures.crash.clean, clean) in
    let unchanged = c.in_ok-find_until.ensures.same then in
    subst (λ rows. IsExtended rows c.args.id.now c.args.until (db 0)) (rows_unchanged old mid unchanged) (added_extends (rows_of mid) (db 0) c.args.id.now c.args.until (one unchanged.0.is_open)))
    c.find_until.ensures.crash adds

pub returns-then-branch-clause-crash : goal.returns-then-branch-clause-crash
returns-then-branch-clause-crash g c =
    survives_weaker (state g.S.Store c.args.conn.now) (state g.S.Store c.find_until.new.conn) _ _ (λ clean db none live. absurd (none live)) c.find_until.ensures.crash

pub returns-clause-opened : goal.returns-clause-opened
returns-clause-opened g c clean live =
    c.find_until.ensures.opened (omega (arith, c.add.ensures.crash.clean, clean)) (c.add.ensures.opened clean live)

pub returns-in_err-add-clause-opened : goal.returns-in_err-add-clause-opened
returns-in_err-add-clause-opened g c clean live =
    c.find_until.ensures.opened (omega (arith, c.add.ensures.crash.clean, clean)) (c.add.ensures.opened clean live)
