use Rattle.std.proofs.Common.{◌≡◌, length}
use Rattle.cookie_client.proofs.order.places.Given as goal

abbrev pub invariant-loop-place : goal.invariant-loop-place
invariant-loop-place l = length l.places.items ≡ l.place
