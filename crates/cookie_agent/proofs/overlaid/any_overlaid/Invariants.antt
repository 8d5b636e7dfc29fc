-- None of the cookies in the slots so far would be overlaid.
use Rattle.std.proofs.Common.{◌≡◌, ◌&&◌, ℕ, ◌<◌, false, get_or}
use Rattle.cookie_browser.specs.RefusedCode.{kept_view, request_view}
use Rattle.cookie_browser.specs.Storage.{is_overlaid, lasts}
use Rattle.cookie_agent.specs.RowsCode.{has, slot_at}
use Rattle.cookie_agent.proofs.overlaid.any_overlaid.Given as goal

abbrev pub invariant-loop-place : goal.invariant-loop-place
invariant-loop-place l =
    (k : ℕ) → k < l.place-index → has (λ c. lasts c.expiry l.now && is_overlaid (request_view l.request) (kept_view l.new) c) (slot_at l.slots (get_or l.places k 0)) ≡ false
