-- Without empty slots it is in the slot of its place.
use Rattle.std.proofs.Common.{ap, ◌∙◌, arith}
use Rattle.std.proofs.lemmas.Iterator.Consumers.{YieldsList-from_first, nth_from_yields_List}
use Rattle.cookie_agent.specs.RowsCode.{Slots, held, slot_at}
use Rattle.cookie_agent.proofs.SlotLemmas.{held-full, lent_slot}
use Rattle.cookie_agent.proofs.rows.Rows.cookie_at.Goals as goal

pub returns-then-self-eq0 : goal.returns-then-self-eq0
returns-then-self-eq0 c =
    let slots : Slots = c.args.self.now.slots.items in
    let counted = c.requires.counted in
    lent_slot c.cookie_in.result (slot_at c.deref.result.now c.args.place) c.cookie_in.ensures
    ∙ ap (λ s. slot_at s c.args.place) c.deref.ensures.value
    ∙ held-full slots (omega (arith, counted, c.if-self-eq0.true)) c.args.place

pub returns : goal.returns
returns c =
    nth_from_yields_List c.nth.result c.nth.new.self c.args.place c.nth.ensures.ran (YieldsList-from_first (λ x. x.now) (λ s. s) (held c.args.self.now.slots.items) c.cookies.ensures)
