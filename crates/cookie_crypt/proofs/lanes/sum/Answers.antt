use Rattle.std.proofs.Common.{bit_xor}
use Rattle.std.proofs.lemmas.Simd.{zip2_of_maps}
use Rattle.cookie_crypt.proofs.lanes.sum.Goals as goal

pub returns : goal.returns
returns c f g v p q = zip2_of_maps bit_xor f g v p q
