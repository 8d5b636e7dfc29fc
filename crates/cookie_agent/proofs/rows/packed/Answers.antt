-- One more slot is empty, or its cookie has the next number.
use Rattle.std.proofs.Common.{◌≡◌, None, reverse, List, ℕ, is_some, filter, sym, ap, subst, ◌∙◌, arith}
use Rattle.std.proofs.lemmas.List.{get_or_default, take_all}
use Rattle.cookie_browser.specs.Storage.{KeptView}
use Rattle.cookie_agent.specs.ExpiriesCode.{IsTimed}
use Rattle.cookie_agent.specs.IndexCode.{IsNumberAt, Lists}
use Rattle.cookie_agent.specs.RowsCode.{AreListed, AreTimed, Slots, slot_at}
use Rattle.cookie_agent.proofs.SlotLemmas.{packed-more, packed-none, packed-same}
use Rattle.cookie_agent.proofs.rows.packed.Goals as goal
use Rattle.cookie_agent.proofs.rows.packed.Goals.{in-Some+in_ok-key+in_ok-add+in_ok-add-2, in_default}

pub loop-slot-init : goal.loop-slot-init
loop-slot-init c = packed-none c.args.slots.now (λ k d. Lists c.new-index.result d.domain k × IsTimed c.new-expiries.result k d.expiry)

pub overflow_add-number : goal.overflow_add-number
overflow_add-number c = let few = c.loop-slot.invariant.few in omega (arith, few, c.loop-slot-test.true)

pub loop-slot-preserved : goal.loop-slot-preserved
loop-slot-preserved c =
    let slots : Slots = c.args.slots.now in
    let i = c.loop-slot.slot-index in
    let n = c.loop-slot.number in
    let so = c.loop-slot.invariant in
    let lt = c.loop-slot-test.true in
    let here : slot_at slots i ≡ c.slot-item.result = get_or_default slots i None c.slot-item.result lt ∙ sym c.slot-item.is in
    elim c.match-slot.branch [
      | in-Some+in_ok-key+in_ok-add+in_ok-add-2 w ↦
          let x : KeptView = w.in-Some.cookie in
          let key : w.in_ok-key.key.items ≡ reverse x.domain = w.in_ok-key.ensures ∙ ap (λ (t : List ℕ). reverse t) w.domain.ensures in
          let added : Lists w.add.new.self x.domain n = subst (λ k. IsNumberAt w.add.new.self k n) key w.in_ok-add.ensures.added in
          let timed : IsTimed w.add-in-Some.new.self n x.expiry = subst (λ o. IsTimed w.add-in-Some.new.self n o) w.expiry_nanos.ensures w.in_ok-add-2.ensures.listed in
          rw (w.index-is, w.expiries-is, w.number-is) (packed-more slots (λ k d. Lists c.loop-slot.index d.domain k × IsTimed c.loop-slot.expiries k d.expiry)
          (λ k d. Lists w.add.new.self d.domain k × IsTimed w.add-in-Some.new.self k d.expiry) i n x so lt (here ∙ w.in-Some.is)
          (λ k d at. (w.in_ok-add.ensures.stay (reverse d.domain) k at.0, w.in_ok-add-2.ensures.stay k d.expiry at.1)) (added, timed))
      | in_default w ↦ rw (w.index-is, w.expiries-is, w.number-is) (packed-same slots (λ k d. Lists c.loop-slot.index d.domain k × IsTimed c.loop-slot.expiries k d.expiry) i n so lt (here ∙ w.in_default.is))
    ]

pub returns-clause-listed : goal.returns-clause-listed
returns-clause-listed c =
    subst (λ (s : Slots). AreListed c.loop-slot.index (filter is_some s)) (take_all c.loop-slot.slot-index c.args.slots.now (omega arith)) (λ k d e. (c.loop-slot.invariant.each k d e).0)

pub returns-clause-timed : goal.returns-clause-timed
returns-clause-timed c =
    subst (λ (s : Slots). AreTimed c.loop-slot.expiries (filter is_some s)) (take_all c.loop-slot.slot-index c.args.slots.now (omega arith)) (λ k d e. (c.loop-slot.invariant.each k d e).1)
