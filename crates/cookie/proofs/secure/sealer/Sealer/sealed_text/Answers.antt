use Rattle.std.proofs.Common.{◌≡◌, ap, rules, subst, ◌∙◌}
use Rattle.std.specs.String.{string_bytes}
use Rattle.cookie.specs.Sealing.{sealed_bytes}
use Rattle.cookie.proofs.SealingLemmas.{sealed_text_of}
use Rattle.cookie.proofs.secure.sealer.Sealer.sealed_text.Goals as goal

pub returns : goal.returns
returns c =
    sealed_text_of string_bytes c.args.self.now c.args.name.now c.args.nonce.now c.args.value.now c.in_ok-bytes.bytes.items c.as_slice.result.now
    c.encode.result c.utf8.value c.requires (record { long = search rules; bytes = search rules }) c.as_slice.ensures.value
    (subst (λ key. c.in_ok-bytes.bytes.items ≡ sealed_bytes key c.args.name.now c.args.nonce.now c.args.value.now) c.self.view_is
    (c.in_ok-bytes.ensures ∙ ap (λ bound. sealed_bytes c.self.inside.cipher bound c.args.nonce.now c.args.value.now) c.as_bytes.ensures.value)) c.encode.ensures.text
