use Rattle.std.proofs.Common.{◌≡◌, length}
use Rattle.cookie_client.proofs.order.pick_place.Given as goal

abbrev pub invariant-loop-width : goal.invariant-loop-width
invariant-loop-width l = length l.places ≡ length l.fn.places

abbrev pub decreases-loop-width : goal.decreases-loop-width
decreases-loop-width l = l.width
