use Rattle.std.proofs.Common.{◌≡◌, ℕ, zero, suc, replicate, refl, ◌+◌, ◌-◌, ◌*◌, ◌<◌, bit_xor, slice_index, ap, subst, ⊎_elim, ◌∙◌, arith}
use Rattle.std.specs.Int.Bits.{xor_zero_l}
use Rattle.std.proofs.lemmas.Bool.{cases_lt}
use Rattle.cookie_crypt.specs.Turned.{key_byte}
use Rattle.cookie_crypt.proofs.TurnedLemmas.{prepared_all}
use Rattle.cookie_crypt.proofs.aes.prepare.Goals as goal

zeros : (n p : ℕ) → slice_index (replicate n 0) p ≡ 0
zeros zero p = refl
zeros (suc n) zero = refl
zeros (suc n) (suc p) = zeros n p

pub loop-round-init : goal.loop-round-init
loop-round-init c = record { places = refl; made = λ p h. absurd (omega arith); left = λ p h. zeros 240 p }

pub loop-round-preserved : goal.loop-round-preserved
loop-round-preserved c =
    let before = c.loop-round.invariant in
    let k = c.loop-round.round in
    let w = c.args.words.now in
    let new = c.add_block.new.bytes in
    let added = λ (j : ℕ) (h : j < 16).
    c.add_block.ensures.added j h (omega arith)
    ∙ ap (λ x. bit_xor x (slice_index c.prepared_words.result j)) (before.left (16 * k + j) (omega arith)) ∙ xor_zero_l (slice_index c.prepared_words.result j) in
    record {
      places = c.add_block.ensures.length ∙ before.places;
      made = λ p h.
          ⊎_elim (λ below. ap (key_byte p) (c.add_block.ensures.before p below) ∙ before.made p below)
          (λ past.
          let place : 16 * k + (p - 16 * k) ≡ p = omega arith in
          subst (λ q. key_byte q (slice_index new q) ≡ slice_index w q) place
          (ap (key_byte (16 * k + (p - 16 * k))) (added (p - 16 * k) (omega arith)) ∙ c.prepared_words.ensures (p - 16 * k) (omega arith)))
          (cases_lt p (16 * k));
      left = λ p h. c.add_block.ensures.after p (omega arith) ∙ before.left p (omega arith);
    }

pub returns : goal.returns
returns c = prepared_all c.args.words.now c.loop-round.prepared c.told-words (λ p h. c.loop-round.invariant.made p (omega arith))
