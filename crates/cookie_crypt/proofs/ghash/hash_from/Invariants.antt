use Rattle.std.proofs.Common.{◌≡◌, map}
use Rattle.std.specs.List.{range_with_len}
use Rattle.cookie_crypt.specs.Ghash.{ghash_from}
use Rattle.cookie_crypt.specs.Gcm.{block_at}
use Rattle.cookie_crypt.specs.Steps.{with_products}
use Rattle.cookie_crypt.proofs.ghash.hash_from.Given as goal

abbrev pub invariant-loop-i : goal.invariant-loop-i
invariant-loop-i l = record {
  counted : l.steps ≡ with_products l.i l.initial.steps;
  sum_is : l.sum ≡ ghash_from l.multiples l.fn.hash (map (block_at l.bytes) (range_with_len 0 l.i));
}
