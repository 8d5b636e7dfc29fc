use Rattle.std.proofs.Common.{◌≡◌, ℕ, ◌/◌, List, [], slice_index, get_or, refl, ap, sym, ◌∙◌, arith, bit_xor}
use Rattle.std.specs.Int.Bits.{xor_zero_r}
use Rattle.cookie_crypt.specs.BlockField.{times_power}
use Rattle.cookie_crypt.specs.Gcm.{number_of}
use Rattle.cookie_crypt.specs.Lanes.{looked_up}
use Rattle.cookie_crypt.proofs.ProductLemmas.{times_power-zero}
use Rattle.cookie_crypt.proofs.ColumnLemmas.{no_lane, no_lane-lt, no_number, summed, summed-one, number_of-moved, number_of-moved_zero, ends_moved, step_sum, folded_sum, product_by_columns}
use Rattle.cookie_crypt.proofs.multiples.product.Goals as goal

-- the number that the look-ups give for byte b
abbrev found : List (List ℕ) → List (List ℕ) → List ℕ → ℕ → ℕ
found upper lower bytes b = number_of (looked_up (get_or upper b []) (get_or lower b []) bytes)

pub loop-done-init : goal.loop-done-init
loop-done-init c =
    let begun = c.look_up_both-first.ensures in
    let first : List ℕ = c.look_up_both-first.result in
    record {
      first_lanes = begun.lanes;
      rest_lanes = (refl, no_lane-lt 16);
      rest_ends = λ k h. no_lane 16 k;
      sum_is =
          ap (λ x. bit_xor (number_of first) (times_power 128 x)) no_number ∙ ap (bit_xor (number_of first)) (times_power-zero 128) ∙ xor_zero_r (number_of first)
          ∙ ap number_of begun.value ∙ sym (summed-one (found c.args.upper.now c.args.lower.now c.lanes_of-bytes.result));
    }

pub loop-done-preserved : goal.loop-done-preserved
loop-done-preserved c =
    let before = c.loop-done.invariant in
    let first : List ℕ = c.loop-done.first in
    let rest : List ℕ = c.loop-done.rest in
    let done : ℕ = c.loop-done.done in
    record {
      first_lanes = c.add-first.ensures.lanes;
      rest_lanes = c.move_on-rest.ensures.lanes;
      rest_ends = λ k h. ap (λ l. slice_index l k) c.move_on-rest.ensures.value ∙ ends_moved (slice_index first 15) rest done (omega arith) before.rest_ends k h;
      sum_is =
          step_sum (found c.args.upper.now c.args.lower.now c.lanes_of-bytes.result) first rest c.look_up_both-column.result _ _ done before.rest_lanes.1 (before.rest_ends 15 (omega arith))
          (c.add-first.ensures.value
          ∙ ap (λ x. bit_xor x (number_of c.look_up_both-column.result)) (ap number_of c.move_on.ensures.value ∙ number_of-moved_zero first before.first_lanes.1 before.first_lanes.0))
          (ap number_of c.move_on-rest.ensures.value ∙ number_of-moved first rest before.rest_lanes.0 (before.first_lanes.1 15) (before.rest_lanes.1 15))
          (ap number_of c.look_up_both-column.ensures.value)
          before.sum_is;
    }

pub returns : goal.returns
returns c = λ h p q r.
    let upper : List (List ℕ) = c.args.upper.now in
    let lower : List (List ℕ) = c.args.lower.now in
    let last = c.loop-done.invariant in
    let all : c.loop-done.done ≡ 16 = omega arith in
    ap (λ x. bit_xor (bit_xor (bit_xor (bit_xor c.number_of.result x) (x / 2)) (x / 4)) (x / 128)) c.number_of-fallen.ensures
    ∙ ap (λ x. bit_xor (bit_xor (bit_xor (bit_xor x (number_of c.loop-done.rest)) (number_of c.loop-done.rest / 2)) (number_of c.loop-done.rest / 4)) (number_of c.loop-done.rest / 128)) c.number_of.ensures
    ∙ folded_sum (number_of c.loop-done.first) c.loop-done.rest last.rest_lanes.1 (last.rest_ends 15 (omega arith))
    ∙ last.sum_is ∙ ap (summed (found upper lower c.lanes_of-bytes.result)) all
    ∙ ap (λ bs. summed (found upper lower bs) 16) c.lanes_of-bytes.ensures
    ∙ product_by_columns upper lower c.args.block h c.ranges.block.fits p q r
