-- What is pruned has no cookie.
use Rattle.std.proofs.Common.{◌≡◌, is_some, reverse, true, sym, subst}
use Rattle.cookie_agent.specs.RowsCode.{AreRows, Slots, slot_at}
use Rattle.cookie_agent.specs.declared.rows.Rows.{Rows}
use Rattle.cookie_agent.proofs.SlotLemmas.{listed-in}
use Rattle.cookie_agent.proofs.rows.Rows.push.Goals as goal
use Rattle.cookie_agent.proofs.rows.Rows.push.Goals.{then-self-len+in_ok-pack, else-self-len}

pub append-requires-clause-rows : goal.append-requires-clause-rows
append-requires-clause-rows c =
    let rows : Rows = c.if-self-len.self in
    let slots : Slots = rows.slots.items in
    let so : AreRows rows = elim c.if-self-len.branch [
      | then-self-len+in_ok-pack w ↦ subst AreRows (sym w.self-is) w.pack.ensures.rows
      | else-self-len w ↦ subst AreRows (sym w.self-is) c.requires.rows
    ] in
    record {
      listed = listed-in rows.index c.prune.new.self slots
          (λ d k full here. c.prune.ensures (reverse d) k (subst (λ (s : Slots). is_some (slot_at s k) ≡ true) (sym c.deref-2.ensures.value) full) here) so.listed;
      timed = so.timed;
      counted = so.counted;
    }
