use Rattle.std.proofs.Common.{◌≡◌, ◌-◌, refl, ap, sym, ◌∙◌, arith}
use Rattle.std.proofs.lemmas.Nat.Bits.{shr_and_one}
use Rattle.cookie_crypt.specs.BlockField.{times_x, product_below, times_power}
use Rattle.cookie_crypt.proofs.ProductLemmas.{sum_with_bit, sum_without_bit, times_power-next, bit_clear}
use Rattle.cookie_crypt.proofs.block_field.product_below.Goals as goal
use Rattle.cookie_crypt.proofs.block_field.product_below.Goals.{then-a-i-eq1, else-a-i-eq1}

pub loop-i-init : goal.loop-i-init
unfolding product_below times_power
loop-i-init c = record { sum_so_far = refl; moved_so_far = refl }

pub loop-i-preserved : goal.loop-i-preserved
loop-i-preserved c =
    let before = c.loop-i.invariant in
    record {
      sum_so_far = elim c.if-a-i-eq1.branch [
        | then-a-i-eq1 w ↦ w.sum-is ∙ sum_with_bit c.loop-i.i c.args.a c.args.b _ _ before.sum_so_far before.moved_so_far (sym (shr_and_one c.args.a (127 - c.loop-i.i)) ∙ w.if-a-i-eq1.true)
        | else-a-i-eq1 w ↦ w.sum-is ∙ sum_without_bit c.loop-i.i c.args.a c.args.b _ before.sum_so_far (bit_clear c.args.a (127 - c.loop-i.i) w.if-a-i-eq1.false)
      ];
      moved_so_far = c.times_x-moved.ensures ∙ ap times_x before.moved_so_far ∙ sym (times_power-next c.loop-i.i c.args.b);
    }

pub returns : goal.returns
returns c =
    let all : c.loop-i.i ≡ c.args.count = omega arith in
    c.loop-i.invariant.sum_so_far ∙ ap (λ n. product_below n c.args.a c.args.b) all
