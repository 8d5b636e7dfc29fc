use Rattle.cookie_crypt.specs.Gcm.{bytes_of}
use Rattle.cookie_crypt.proofs.block.bytes_of.Goals as goal

pub returns : goal.returns
unfolding bytes_of
returns c = c.to_be_bytes.ensures
