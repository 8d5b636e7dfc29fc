-- No slot has it.
use Rattle.std.proofs.Common.{ap, ⊎_elim, arith}
use Rattle.std.proofs.lemmas.Bool.{cases_lt}
use Rattle.cookie_agent.specs.RowsCode.{has}
use Rattle.cookie_agent.specs.Stored.{is_named_in}
use Rattle.cookie_agent.proofs.SlotLemmas.{none-has, slot_after}
use Rattle.cookie_agent.proofs.rows.named_among.Goals as goal

pub returns : goal.returns
returns c =
    let test = is_named_in c.args.name.now c.args.scope.now in
    none-has test c.args.slots.now (λ k. ⊎_elim
    (λ before. c.loop-place.invariant k (omega (arith, before)))
    (λ after. ap (has test) (slot_after c.args.slots.now k (omega (arith, after, c.loop-place-test.false)))) (cases_lt k c.loop-place.place))
