use Rattle.std.proofs.Common.{arith, subst}
use Rattle.cookie_c.specs.AllPairs.{TakesNext}
use Rattle.cookie_c.proofs.AllPairsLemmas.{next_piece-forward, reads_end}
use Rattle.cookie_c.proofs.all_pairs.decoded_pairs.DecodedPairs.of.Goals as goal

pub loop-read-smaller : goal.loop-read-smaller
loop-read-smaller c =
    let (piece, is, at, _) = subst (TakesNext c.args.header.now c.loop-read.from c.loop-read.read c.take_next.new.self) c.in-Some.is c.in_ok-next.ensures in
    let forward = next_piece-forward c.args.header.now c.loop-read.from piece is in
    omega (arith, forward.0, forward.1, at)

pub returns : goal.returns
returns c = reads_end c.args.header.now c.loop-read.from c.loop-read.read c.take_next.new.self c.in_ok-next.field-0 c.loop-read.invariant c.in_ok-next.ensures c.in_default.not-Some
