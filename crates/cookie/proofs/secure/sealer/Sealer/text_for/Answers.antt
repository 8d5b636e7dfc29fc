use Rattle.std.proofs.Common.{◌≡◌, rules, subst}
use Rattle.std.specs.String.{string_bytes}
use Rattle.cookie_crypt.specs.Gcm.{SealsToBytes}
use Rattle.cookie.specs.Sealing.{sealed_bytes}
use Rattle.cookie.proofs.SealingLemmas.{text_for_of}
use Rattle.cookie.proofs.secure.sealer.Sealer.text_for.Goals as goal

pub returns : goal.returns
returns c =
    text_for_of string_bytes c.args.self.now c.args.purpose.now c.args.name.now c.args.nonce.now c.args.value.now c.as_slice.result.now c.in_ok-bytes.bytes.items
    c.as_slice-2.result.now c.encode.result (subst SealsToBytes c.self.view_is c.self.invariant) c.utf8.value c.requires (record { long = search rules; bytes = search rules }) (search rules)
    c.as_slice-2.ensures.value
    (subst (λ key. c.in_ok-bytes.bytes.items ≡ sealed_bytes key c.as_slice.result.now c.args.nonce.now c.args.value.now) c.self.view_is c.in_ok-bytes.ensures) c.encode.ensures.text
