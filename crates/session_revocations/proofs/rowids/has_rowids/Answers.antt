use Rattle.std.proofs.Common.{[], None, arith, subst}
use Rattle.sqlite.proofs.Callers.{reads_as}
use Rattle.sqlite.proofs.StateLemmas.{survives_weaker}
use Rattle.sqlite.specs.Held.{state}
use Rattle.sqlite.specs.State.{HasCleanDisk}
use Rattle.sqlite.specs.declared.types.Value.TheVariants.{Null}
use Rattle.session_revocations.specs.Rowids.{AreRising}
use Rattle.session_revocations.specs.Table.{revoked_schema}
use Rattle.session_revocations.proofs.AnswerLemmas.{shows}
use Rattle.session_revocations.proofs.FindLemmas.{query_commits, query_same, was_open}
use Rattle.session_revocations.proofs.StateLemmas.{keeps_undone, keeps_unchanged, query_undone, rows_unchanged, rows_undone, undone_open}
use Rattle.session_revocations.proofs.TextLemmas.{keyed, keyed_is, keyed_plain, keyed_text}
use Rattle.session_revocations.proofs.RowidLemmas.{rowids_from}
use Rattle.session_revocations.proofs.rowids.has_rowids.Goals as goal

pub returns-clause-exact : goal.returns-clause-exact
returns-clause-exact g c clean rising =
    let old = state g.S.Store c.args.conn.now in
    let new = state g.S.Store c.query_all.new.self in
    let was : HasCleanDisk old = omega (arith, c.query_all.ensures.survives.clean, clean) in
    let shown = c.in_ok-rows.ensures.ok clean in
    let kept = c.requires was (was_open keyed_text _ old new _ shown) in
    let got = reads_as keyed_text [] old new revoked_schema kept.schema _ keyed_is.0 keyed_plain keyed_is.1 _ shown in
    rowids_from _ _ (shows [] keyed _ [] old.now.trees _ (got.answer Null)) (subst (AreRising None) c.as_slice.ensures.value (c.are_rising.ensures rising))

pub returns-in_err-rows-clause-still : goal.returns-in_err-rows-clause-still
returns-in_err-rows-clause-still g c clean live =
    let old = state g.S.Store c.args.conn.now in
    let new = state g.S.Store c.query_all.new.self in
    let was : HasCleanDisk old = omega (arith, c.query_all.ensures.survives.clean, clean) in
    rows_undone old new (query_undone keyed_text _ old new _ (c.in_err-rows.ensures.err clean)) (c.requires was) live

pub returns-in_err-rows-clause-kept : goal.returns-in_err-rows-clause-kept
returns-in_err-rows-clause-kept g c clean live =
    let old = state g.S.Store c.args.conn.now in
    let new = state g.S.Store c.query_all.new.self in
    let was : HasCleanDisk old = omega (arith, c.query_all.ensures.survives.clean, clean) in
    keeps_undone old new (query_undone keyed_text _ old new _ (c.in_err-rows.ensures.err clean)) (c.requires was) live

pub returns-clause-same : goal.returns-clause-same
returns-clause-same g c clean =
    let old = state g.S.Store c.args.conn.now in
    let new = state g.S.Store c.query_all.new.self in
    let was : HasCleanDisk old = omega (arith, c.query_all.ensures.survives.clean, clean) in
    let shown = c.in_ok-rows.ensures.ok clean in
    let kept = c.requires was (was_open keyed_text _ old new _ shown) in
    let same = query_same keyed_text _ old new keyed_plain kept.schema _ shown in
    same

pub returns-clause-still : goal.returns-clause-still
returns-clause-still g c clean live =
    let old = state g.S.Store c.args.conn.now in
    let new = state g.S.Store c.query_all.new.self in
    let was : HasCleanDisk old = omega (arith, c.query_all.ensures.survives.clean, clean) in
    let shown = c.in_ok-rows.ensures.ok clean in
    let kept = c.requires was (was_open keyed_text _ old new _ shown) in
    let same = query_same keyed_text _ old new keyed_plain kept.schema _ shown in
    rows_unchanged old new same

pub returns-clause-kept : goal.returns-clause-kept
returns-clause-kept g c clean live =
    let old = state g.S.Store c.args.conn.now in
    let new = state g.S.Store c.query_all.new.self in
    let was : HasCleanDisk old = omega (arith, c.query_all.ensures.survives.clean, clean) in
    let shown = c.in_ok-rows.ensures.ok clean in
    let kept = c.requires was (was_open keyed_text _ old new _ shown) in
    let same = query_same keyed_text _ old new keyed_plain kept.schema _ shown in
    keeps_unchanged old new same kept

pub returns-clause-crash : goal.returns-clause-crash
returns-clause-crash g c =
    let old = state g.S.Store c.args.conn.now in
    let new = state g.S.Store c.query_all.new.self in
    survives_weaker old new _ _ (λ clean db commits live. query_commits keyed_text _ old keyed_plain (c.requires (omega (arith, c.query_all.ensures.survives.clean, clean)) live).schema db commits) c.query_all.ensures.survives

pub returns-in_err-rows-clause-crash : goal.returns-in_err-rows-clause-crash
returns-in_err-rows-clause-crash g c =
    let old = state g.S.Store c.args.conn.now in
    let new = state g.S.Store c.query_all.new.self in
    survives_weaker old new _ _ (λ clean db commits live. query_commits keyed_text _ old keyed_plain (c.requires (omega (arith, c.query_all.ensures.survives.clean, clean)) live).schema db commits) c.query_all.ensures.survives

pub returns-clause-opened : goal.returns-clause-opened
returns-clause-opened g c clean live =
    was_open keyed_text _ (state g.S.Store c.args.conn.now) (state g.S.Store c.query_all.new.self) _ (c.in_ok-rows.ensures.ok clean)

pub returns-in_err-rows-clause-opened : goal.returns-in_err-rows-clause-opened
returns-in_err-rows-clause-opened g c clean live =
    let old = state g.S.Store c.args.conn.now in
    let new = state g.S.Store c.query_all.new.self in
    undone_open old new (query_undone keyed_text _ old new _ (c.in_err-rows.ensures.err clean)) live
