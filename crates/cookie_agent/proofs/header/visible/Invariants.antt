-- What was found is what is sent of the cookies in the slots so far.
use Rattle.std.proofs.Common.{◌≡◌, map, take}
use Rattle.cookie_agent.specs.RowsCode.{held, slot_at}
use Rattle.cookie_agent.specs.Sent.{visible}
use Rattle.cookie_agent.specs.SentCode.{targets}
use Rattle.cookie_agent.proofs.header.visible.Given as goal

abbrev pub invariant-loop-place : goal.invariant-loop-place
invariant-loop-place l = targets l.sent.items ≡ visible l.site l.now (held (map (slot_at l.slots) (take l.place-index l.places)))
