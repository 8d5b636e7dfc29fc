use Rattle.cookie_crypt.specs.Gcm.{number_of}
use Rattle.cookie_crypt.proofs.block.number_of.Goals as goal

pub returns : goal.returns
unfolding number_of
returns c = c.from_be_bytes.ensures
