use Rattle.cookie.proofs.RowLemmas.{IsMoving-next}
use Rattle.cookie.proofs.table.move_all.Goals as goal

pub loop-key-preserved-in-Some : goal.loop-key-preserved-in-Some
loop-key-preserved-in-Some g c =
    let put = c.insert.ensures in
    IsMoving-next c.args.pairs.items c.args.table.now c.loop-key.table c.insert.new.self c.loop-key.key-iterator c.next.new.self c.in-Some.key c.in-Some.entry c.insert.result c.unwrap.result
    c.requires.unique c.loop-key.invariant c.in-Some.ensures.steps c.unwrap.ensures put.entries put.spare put.hasher

pub loop-key-preserved : goal.loop-key-preserved
loop-key-preserved g c =
    let put = c.insert.ensures in
    IsMoving-next c.args.pairs.items c.args.table.now c.loop-key.table c.insert.new.self c.loop-key.key-iterator c.next.new.self c.in-Some.key c.in-Some.entry c.insert.result c.unwrap.result
    c.requires.unique c.loop-key.invariant c.in-Some.ensures.steps c.unwrap.ensures put.entries put.spare put.hasher
