use Rattle.cookie_crypt.proofs.BytesLemmas.{seals_to_bytes}
use Rattle.cookie_crypt.proofs.prepared_gcm.PreparedGcm.new.Goals as goal

pub returns-clause-bytes : goal.returns-clause-bytes
returns-clause-bytes c = seals_to_bytes c.args.key.now c.fits-key
