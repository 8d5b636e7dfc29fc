use Rattle.std.proofs.Common.{◌++◌, ap, refl, rules, ◌∙◌}
use Rattle.cookie_crypt.proofs.GcmLemmas.{length-sealed}
use Rattle.cookie.proofs.SealingLemmas.{buffer-put, buffer-value, sealed_bytes-from, sealing-turned}
use Rattle.cookie.proofs.secure.sealing.sealed_bytes.Goals as goal

pub returns : goal.returns
returns c =
    let nonce = c.args.nonce.now in
    let value = c.args.value.now in
    let items = c.extend_from_slice.new.self.items in
    let whole = c.deref_mut.result.now in
    let text = c.seal_in_place.new.text in
    let filled = c.in_ok-extend_from_slice.ensures.items ∙ ap (λ xs. xs ++ c.as_bytes.result.now) c.in_ok-bytes.ensures.items ∙ ap (λ xs. nonce ++ xs) c.as_bytes.ensures.value in
    let same = c.deref_mut.ensures.value in
    let sealing = sealing-turned c.args.cipher.now c.args.cipher.now nonce c.args.bound.now c.args.bound.now _ value text c.in-Some.tag
    refl refl (buffer-value nonce value items whole (search rules) same filled) c.in-Some.ensures.sealed in
    c.in_ok-extend_from_slice-2.ensures.items
    ∙ ap (λ xs. xs ++ c.in-Some.tag) (buffer-put nonce value text items whole _ (search rules) same filled (length-sealed _ _ _ _ _ _ sealing) c.deref_mut.ensures.len)
    ∙ sealed_bytes-from c.args.cipher.now c.args.bound.now nonce value text c.in-Some.tag sealing
