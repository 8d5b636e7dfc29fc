-- The other cookies stay in their slots.
use Rattle.std.proofs.Common.{None, ⊎_elim, arith}
use Rattle.std.proofs.lemmas.List.{length-set}
use Rattle.cookie_agent.specs.RowsCode.{Slots, slot_at}
use Rattle.cookie_agent.proofs.SlotLemmas.{at-place, full_some, listed-out}
use Rattle.cookie_agent.proofs.TimedLemmas.{timed-out}
use Rattle.cookie_agent.proofs.rows.Rows.remove.Goals as goal

pub returns-clause-rows : goal.returns-clause-rows
returns-clause-rows c =
    let slots : Slots = c.args.self.now.slots.items in
    let full = full_some (slot_at slots c.args.place) c.requires.full in
    let fewer = (at-place slots c.args.place full.0 full.1).fewer in
    let long = length-set slots c.args.place None in
    let counted = c.requires.rows.counted in
    record {
      timed = timed-out c.args.self.now.expiries c.remove.new.self slots c.requires.rows.timed c.args.place (λ n o other at. ⊎_elim (λ stay. stay) (λ it. absurd (other it.0)) (c.remove.ensures n o at));
      listed = listed-out c.args.self.now.index slots c.args.place c.requires.rows.listed;
      counted = omega (arith, fewer, long, counted);
    }
