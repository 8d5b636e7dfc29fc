use Rattle.std.proofs.Common.{◌≡◌}
use Rattle.cookie_crypt.specs.BlockField.{product_below, times_power}
use Rattle.cookie_crypt.proofs.block_field.product_below.Given as goal

abbrev pub invariant-loop-i : goal.invariant-loop-i
invariant-loop-i l = record { sum_so_far : l.sum ≡ product_below l.i l.a l.b; moved_so_far : l.moved ≡ times_power l.i l.b }
