use Rattle.std.proofs.Common.{◌*◌, ap, ◌∙◌, arith}
use Rattle.cookie_crypt.specs.Gcm.{number_of, block_at}
use Rattle.cookie_crypt.proofs.LaneLemmas.{loaded}
use Rattle.cookie_crypt.proofs.Made.{made_all}
use Rattle.cookie_crypt.proofs.block.block_at.Goals as goal

pub returns-then-bytes-start-ge16 : goal.returns-then-bytes-start-ge16
unfolding block_at
returns-then-bytes-start-ge16 c = c.number_of.ensures ∙ ap number_of (loaded c.args.bytes.now (16 * c.args.i) (omega arith))

pub returns : goal.returns
unfolding block_at
returns c = c.number_of-2.ensures ∙ ap number_of (made_all _ 16 c.loop-j.j c.loop-j.block (omega arith) c.loop-j.invariant)
