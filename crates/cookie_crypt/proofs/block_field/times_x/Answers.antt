use Rattle.std.proofs.Common.{◌*◌, ◌/◌, ap, bit_xor}
use Rattle.std.proofs.lemmas.Nat.{and_mask}
use Rattle.cookie_crypt.specs.BlockField.{times_x, reduction}
use Rattle.cookie_crypt.proofs.block_field.times_x.Goals as goal

pub returns : goal.returns
unfolding times_x
returns c = ap (λ x. bit_xor (c.args.block / 2) (x * reduction)) (and_mask c.args.block 1)
