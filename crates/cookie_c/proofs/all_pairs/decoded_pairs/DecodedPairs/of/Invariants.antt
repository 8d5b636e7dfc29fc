use Rattle.std.proofs.Common.{◌+◌, ◌-◌, length}
use Rattle.cookie_c.proofs.AllPairsLemmas.{ReadsSoFar}
use Rattle.cookie_c.proofs.all_pairs.decoded_pairs.DecodedPairs.of.Given as goal

abbrev pub invariant-loop-read : goal.invariant-loop-read
invariant-loop-read l = ReadsSoFar l.fn.header l.from l.read.pairs.items l.read.text.items

abbrev pub decreases-loop-read : goal.decreases-loop-read
decreases-loop-read l = length l.fn.header + 1 - l.from
