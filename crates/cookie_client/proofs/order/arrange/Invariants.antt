use Rattle.std.proofs.Common.{◌≡◌, length, IsPermutation}
use Rattle.cookie_client.proofs.order.arrange.Given as goal

abbrev pub invariant-loop : goal.invariant-loop
invariant-loop l = record {
  moved : IsPermutation l.fn.texts l.texts;
  count : length l.texts ≡ length l.fn.texts;
  same : length l.places ≡ length l.texts;
}

abbrev pub invariant-loop-place : goal.invariant-loop-place
invariant-loop-place l = record {
  moved : IsPermutation l.fn.texts l.texts;
  count : length l.texts ≡ length l.fn.texts;
  same : length l.places ≡ length l.texts;
}
