use Rattle.std.proofs.Common.{◌≡◌, ℕ, ◌+◌, ◌-◌, ◌*◌, ◌/◌, ◌%◌, ◌<◌, List, length, slice_index, ap, sym, ◌∙◌, arith, bit_xor, ⊎_elim}
use Rattle.std.proofs.lemmas.Bool.{cases_lt}
use Rattle.std.proofs.lemmas.List.FromFn.{fill_by_all}
use Rattle.cookie_crypt.specs.Aes.{encrypt_block}
use Rattle.cookie_crypt.specs.Gcm.{counter_block, key_stream, gctr}
use Rattle.cookie_crypt.specs.Steps.{with_blocks}
use Rattle.cookie_crypt.proofs.StepLemmas.{with_blocks-add}
use Rattle.cookie_crypt.proofs.sealing.add_key_stream.Goals as goal

pub loop-i-preserved : goal.loop-i-preserved
unfolding key_stream
loop-i-preserved c =
    let i : ℕ = c.loop-i.i in
    let key : List ℕ = c.args.cipher.now in
    let nonce : List ℕ = c.args.nonce.now in
    let text : List ℕ = c.args.text.now in
    let before = c.loop-i.invariant in
    let sum = c.add_block.ensures in
    let stream : List ℕ = c.encrypt_block-stream.result in
    let current : stream ≡ encrypt_block key (counter_block nonce (i + 2)) = c.encrypt_block-stream.ensures.made ∙ ap (encrypt_block key) c.counter_block.ensures in
    record {
      counted = c.encrypt_block-stream.ensures.counted ∙ ap (with_blocks 1) before.counted ∙ with_blocks-add i 1 c.args.steps.now;
      places = sum.length ∙ before.places;
      turned = λ k h q.
          ⊎_elim
          (λ below. sum.before k below ∙ before.turned k below q)
          (λ above.
          let j : ℕ = k - 16 * i in
          let place : 16 * i + j ≡ k = omega arith in
          let own : 16 * i + j < length c.loop-i.text = omega (arith, before.places) in
          let count : i + 2 ≡ k / 16 + 2 = omega arith in
          let lane : j ≡ k % 16 = omega arith in
          ap (slice_index _) (sym place) ∙ sum.added j (omega arith) own
          ∙ ap (λ p. bit_xor (slice_index c.loop-i.text p) (slice_index stream j)) place
          ∙ ap (λ x. bit_xor x (slice_index stream j)) (before.left k above)
          ∙ ap (λ s. bit_xor (slice_index text k) (slice_index s j)) current
          ∙ ap (λ n. bit_xor (slice_index text k) (slice_index (encrypt_block key (counter_block nonce n)) j)) count
          ∙ ap (λ p. bit_xor (slice_index text k) (slice_index (encrypt_block key (counter_block nonce (k / 16 + 2))) p)) lane)
          (cases_lt k (16 * i));
      left = λ k h. sum.after k (omega arith) ∙ before.left k (omega arith);
    }

pub returns-clause-made : goal.returns-clause-made
unfolding gctr
returns-clause-made c =
    fill_by_all (λ k. bit_xor (slice_index c.args.text.now k) (key_stream c.args.cipher.now c.args.nonce.now k)) c.loop-i.text (length c.args.text.now) 0
    c.loop-i.invariant.places (λ k h. c.loop-i.invariant.turned k (omega arith) h)
