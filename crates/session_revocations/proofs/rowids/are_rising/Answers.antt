use Rattle.std.proofs.Common.{rules}
use Rattle.session_revocations.proofs.RowidLemmas.{rises_on}
use Rattle.session_revocations.proofs.rowids.are_rising.Goals as goal

pub loop-row-preserved : goal.loop-row-preserved
loop-row-preserved c later =
    let first = (c.in-Ok.ensures).ok in
    let second = (c.in-Ok-get.ensures).ok in
    let after = c.if-not-is_after.ensures in
    let inv = c.get.type_inv in let inv2 = (c.in-Ok.ensures).ok.1 in let t = c.loop-row.invariant in
    c.loop-row.invariant (rises_on c.loop-row.last c.args.rows.now c.loop-row.row-index c.row-item.result c.in-Ok.rowid c.in-Ok-get._until c.loop-row-test.true c.row-item.is first.1 second.1 (search rules) (search rules))
