use Rattle.std.proofs.Common.{subst, sym}
use Rattle.cookie_crypt.specs.Bytes.{IsBytes}
use Rattle.cookie_crypt.proofs.BytesLemmas.{seals_to_bytes}
use Rattle.cookie_crypt.proofs.gcm.Gcm.new.Goals as goal

pub invariant_of-result : goal.invariant_of-result
invariant_of-result c = subst IsBytes (sym c.new.ensures) c.fits-key

pub returns-clause-bytes : goal.returns-clause-bytes
returns-clause-bytes c = seals_to_bytes c.args.key.now c.fits-key
