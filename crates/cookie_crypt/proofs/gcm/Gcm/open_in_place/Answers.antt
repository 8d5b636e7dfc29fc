use Rattle.std.proofs.Common.{rules}
use Rattle.cookie_crypt.proofs.GcmLemmas.{opened-only, sealed-within}
use Rattle.cookie_crypt.proofs.BytesLemmas.{seals_to_bytes_as}
use Rattle.cookie_crypt.proofs.gcm.Gcm.open_in_place.Goals as goal

pub returns-then-not-is_within-clause-refused : goal.returns-then-not-is_within-clause-refused
returns-then-not-is_within-clause-refused c = λ plain h.
    let within = sealed-within c.args.self.now c.args.nonce.now c.args.aad.now plain c.args.text.now c.args.tag.now h in search rules

pub returns-clause-only : goal.returns-clause-only
returns-clause-only c =
    opened-only _ c.args.self.now c.args.nonce.now c.args.aad.now c.open.new.text c.args.text.now c.args.tag.now c.open.result c.self.view_is c.open.ensures.opened

pub returns-then-not-is_within-clause-bytes : goal.returns-then-not-is_within-clause-bytes
returns-then-not-is_within-clause-bytes c = seals_to_bytes_as c.args.self.now _ c.self.invariant c.self.view_is

pub returns-clause-bytes : goal.returns-clause-bytes
returns-clause-bytes c = seals_to_bytes_as c.args.self.now _ c.self.invariant c.self.view_is
