-- None of the slots so far has the same cookie.
use Rattle.std.proofs.Common.{◌≡◌, ℕ, false, Contains, take}
use Rattle.cookie_browser.specs.RefusedCode.{kept_view}
use Rattle.cookie_browser.specs.Storage.{is_same_cookie}
use Rattle.cookie_agent.specs.RowsCode.{has, slot_at}
use Rattle.cookie_agent.proofs.rows.same_among.Given as goal

abbrev pub invariant-loop-place : goal.invariant-loop-place
invariant-loop-place l =
    (k : ℕ) → Contains (take l.place-index l.these) k → has (λ c. is_same_cookie c (kept_view l.kept)) (slot_at l.slots k) ≡ false
