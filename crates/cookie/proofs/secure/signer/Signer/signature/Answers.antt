use Rattle.std.proofs.Common.{[], ◌++◌, ap, refl, ◌∙◌}
use Rattle.cookie_crypt.specs.Hmac.{hmac}
use Rattle.cookie.proofs.SigningLemmas.{message-is, signature-from}
use Rattle.cookie.proofs.secure.signer.Signer.signature.Goals as goal

pub returns : goal.returns
returns c =
    signature-from c.args.self.now c.args.name.now c.args.value.now _ c.code-digest.result _ _ c.encode_slice.result
    (message-is _ _ _ _ _ c.to_be_bytes-length.ensures c.as_bytes.ensures.value c.as_bytes-2.ensures.value)
    (c.code-digest.ensures ∙ ap (λ key. hmac key (c.to_be_bytes-length.result ++ (c.as_bytes.result.now ++ (c.as_bytes-2.result.now ++ [])))) c.self.view_is) refl c.encode_slice.ensures.fits c.encode_slice.ensures.written
