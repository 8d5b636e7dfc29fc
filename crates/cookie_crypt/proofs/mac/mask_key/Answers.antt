use Rattle.std.proofs.Common.{slice_index, sym, refl, ◌∙◌, arith}
use Rattle.std.proofs.lemmas.List.FromFn.{fill_by_all}
use Rattle.cookie_crypt.specs.Hmac.{masked}
use Rattle.cookie_crypt.proofs.Made.{made_more, made_all}
use Rattle.cookie_crypt.proofs.MacLemmas.{length-masked, masked_byte, masked_zero}
use Rattle.cookie_crypt.proofs.mac.mask_key.Goals as goal
use Rattle.cookie_crypt.proofs.mac.mask_key.Goals.{then-i-key, else-i-key}

pub loop-i-preserved : goal.loop-i-preserved
loop-i-preserved c =
    let i = c.loop-i.i in
    let key = c.args.key.now in
    let mask = c.args.mask in
    made_more (λ k. slice_index (masked key mask) k) 64 i c.loop-i.bytes c.if-i-key.bytes
    (elim c.if-i-key.branch [
      | then-i-key w ↦ w.bytes-is ∙ masked_byte key mask i (omega arith) (omega arith)
      | else-i-key w ↦ w.bytes-is ∙ masked_zero key mask i (omega arith) (omega arith) (omega arith)
    ])
    (omega arith) c.loop-i.invariant

pub returns : goal.returns
returns c =
    let whole = masked c.args.key.now c.args.mask in
    made_all _ 64 c.loop-i.i c.loop-i.bytes (omega arith) c.loop-i.invariant
    ∙ sym (fill_by_all (λ k. slice_index whole k) whole 64 0 (length-masked c.args.key.now c.args.mask (omega arith)) (λ k h. refl))
