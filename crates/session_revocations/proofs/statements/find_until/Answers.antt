use Rattle.std.proofs.Common.{◌≡◌, length, arith, to_z-of_z}
use Rattle.sqlite.proofs.StateLemmas.{survives_weaker}
use Rattle.sqlite.specs.Held.{state}
use Rattle.sqlite.specs.State.{HasCleanDisk}
use Rattle.session_revocations.proofs.FindLemmas.{find_commits, find_same, finds, was_open}
use Rattle.session_revocations.proofs.RowLemmas.{passes_until}
use Rattle.session_revocations.proofs.StateLemmas.{keeps_undone, keeps_unchanged, query_undone, rows_unchanged, rows_undone, undone_open}
use Rattle.session_revocations.proofs.TextLemmas.{until_is, until_plain, until_text}
use Rattle.session_revocations.proofs.statements.find_until.Goals as goal

pub returns-clause-exact : goal.returns-clause-exact
returns-clause-exact g c clean =
    let old = state g.S.Store c.args.conn.now in
    let new = state g.S.Store c.query_all.new.self in
    let was : HasCleanDisk old = omega (arith, c.query_all.ensures.survives.clean, clean) in
    let shown = rw (c.params-to_sql.ensures, c.params-to_sql-2.ensures, to_z-of_z c.ranges.until) at (c.in_ok-rows.ensures.ok clean) in
    let kept = c.requires was (was_open until_text _ old new _ shown) in
    let len : c.in_ok-rows.rows.len ≡ length c.in_ok-rows.rows.items = c.in_ok-rows.rows.ok.0 in
    rw (c.is_empty.ensures, len) (finds until_text _ _ old new until_is until_plain kept.schema _ (passes_until c.args.id.now c.args.until) _ shown)

pub returns-clause-same : goal.returns-clause-same
returns-clause-same g c clean =
    let old = state g.S.Store c.args.conn.now in
    let new = state g.S.Store c.query_all.new.self in
    let was : HasCleanDisk old = omega (arith, c.query_all.ensures.survives.clean, clean) in
    let shown = rw (c.params-to_sql.ensures, c.params-to_sql-2.ensures, to_z-of_z c.ranges.until) at (c.in_ok-rows.ensures.ok clean) in
    let kept = c.requires was (was_open until_text _ old new _ shown) in
    find_same until_text _ _ old new until_is until_plain kept.schema _ shown

pub returns-clause-still : goal.returns-clause-still
returns-clause-still g c clean live =
    let old = state g.S.Store c.args.conn.now in
    let new = state g.S.Store c.query_all.new.self in
    let was : HasCleanDisk old = omega (arith, c.query_all.ensures.survives.clean, clean) in
    let shown = rw (c.params-to_sql.ensures, c.params-to_sql-2.ensures, to_z-of_z c.ranges.until) at (c.in_ok-rows.ensures.ok clean) in
    let kept = c.requires was (was_open until_text _ old new _ shown) in
    rows_unchanged old new (find_same until_text _ _ old new until_is until_plain kept.schema _ shown)

pub returns-clause-kept : goal.returns-clause-kept
returns-clause-kept g c clean live =
    let old = state g.S.Store c.args.conn.now in
    let new = state g.S.Store c.query_all.new.self in
    let was : HasCleanDisk old = omega (arith, c.query_all.ensures.survives.clean, clean) in
    let shown = rw (c.params-to_sql.ensures, c.params-to_sql-2.ensures, to_z-of_z c.ranges.until) at (c.in_ok-rows.ensures.ok clean) in
    let kept = c.requires was (was_open until_text _ old new _ shown) in
    keeps_unchanged old new (find_same until_text _ _ old new until_is until_plain kept.schema _ shown) kept

pub returns-clause-crash : goal.returns-clause-crash
returns-clause-crash g c =
    let old = state g.S.Store c.args.conn.now in
    let new = state g.S.Store c.query_all.new.self in
    let survives = rw (c.params-to_sql.ensures, c.params-to_sql-2.ensures, to_z-of_z c.ranges.until) at c.query_all.ensures.survives in
    survives_weaker old new _ _ (λ clean db commits live. find_commits until_text _ _ old new until_is until_plain (c.requires (omega (arith, c.query_all.ensures.survives.clean, clean)) live).schema db commits) survives

pub returns-in_err-rows-clause-still : goal.returns-in_err-rows-clause-still
returns-in_err-rows-clause-still g c clean live =
    let old = state g.S.Store c.args.conn.now in
    let new = state g.S.Store c.query_all.new.self in
    let was : HasCleanDisk old = omega (arith, c.query_all.ensures.survives.clean, clean) in
    let failed = query_undone until_text _ old new _ (rw (c.params-to_sql.ensures, c.params-to_sql-2.ensures, to_z-of_z c.ranges.until) at (c.in_err-rows.ensures.err clean)) in
    rows_undone old new failed (c.requires was) live

pub returns-in_err-rows-clause-kept : goal.returns-in_err-rows-clause-kept
returns-in_err-rows-clause-kept g c clean live =
    let old = state g.S.Store c.args.conn.now in
    let new = state g.S.Store c.query_all.new.self in
    let was : HasCleanDisk old = omega (arith, c.query_all.ensures.survives.clean, clean) in
    let failed = query_undone until_text _ old new _ (rw (c.params-to_sql.ensures, c.params-to_sql-2.ensures, to_z-of_z c.ranges.until) at (c.in_err-rows.ensures.err clean)) in
    keeps_undone old new failed (c.requires was) live

pub returns-in_err-rows-clause-crash : goal.returns-in_err-rows-clause-crash
returns-in_err-rows-clause-crash g c =
    let old = state g.S.Store c.args.conn.now in
    let new = state g.S.Store c.query_all.new.self in
    let survives = rw (c.params-to_sql.ensures, c.params-to_sql-2.ensures, to_z-of_z c.ranges.until) at c.query_all.ensures.survives in
    survives_weaker old new _ _ (λ clean db commits live. find_commits until_text _ _ old new until_is until_plain (c.requires (omega (arith, c.query_all.ensures.survives.clean, clean)) live).schema db commits) survives

pub returns-clause-opened : goal.returns-clause-opened
returns-clause-opened g c clean live =
    let old = state g.S.Store c.args.conn.now in
    let new = state g.S.Store c.query_all.new.self in
    was_open until_text _ old new _ (rw (c.params-to_sql.ensures, c.params-to_sql-2.ensures, to_z-of_z c.ranges.until) at (c.in_ok-rows.ensures.ok clean))

pub returns-in_err-rows-clause-opened : goal.returns-in_err-rows-clause-opened
returns-in_err-rows-clause-opened g c clean live =
    let old = state g.S.Store c.args.conn.now in
    let new = state g.S.Store c.query_all.new.self in
    undone_open old new (query_undone until_text _ old new _ (rw (c.params-to_sql.ensures, c.params-to_sql-2.ensures, to_z-of_z c.ranges.until) at (c.in_err-rows.ensures.err clean))) live
