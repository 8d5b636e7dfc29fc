-- One more cookie stays, or goes.
use Rattle.std.proofs.Common.{◌+◌, ◌<◌, length, sym, ap, subst, ◌∙◌, arith}
use Rattle.cookie_agent.specs.RowsCode.{Slots, slot_at}
use Rattle.cookie_agent.proofs.SlotLemmas.{IsKept, empty_none, full_some, is_number, isnt_number, kept-all, kept-empty, kept-here, kept-none, kept-out}
use Rattle.cookie_agent.proofs.rows.Rows.keep.Goals as goal
use Rattle.cookie_agent.proofs.rows.Rows.keep.Goals.{then-is_full, then-is_at, else-is_at, else-is_full}

pub loop-slot-init : goal.loop-slot-init
loop-slot-init c = record {
  rows = c.requires.rows;
  few = omega arith;
  walk = kept-none c.args.self.now.slots.items c.args.places.now;
}

pub loop-slot-preserved : goal.loop-slot-preserved
loop-slot-preserved c =
    let old : Slots = c.args.self.now.slots.items in
    let ps = c.args.places.now in
    let at = c.loop-slot in
    let now : Slots = at.self.slots.items in
    let so = at.invariant in
    let few = so.few in
    let below : at.slot < length old = omega (arith, c.loop-slot-test.true, c.len-slot-end.ensures, c.args.self.now.slots.ok.0) in
    let deref = ap (λ (s : Slots). slot_at s at.slot) (sym c.deref.ensures.value) in
    elim c.if-is_full.branch [
      | then-is_full w ↦
          let full = full_some (slot_at c.deref.result.now at.slot) (sym c.is_full.ensures ∙ w.if-is_full.true) in
          elim w.if-is_at.branch [
            | then-is_at w' ↦
                let here = is_number ps at.kept at.place (sym w.is_at.ensures ∙ w'.if-is_at.true) in
                rw (w.self-is, w.place-is, w.kept-is, w'.self-is, w'.kept-is) (record {
                  rows = so.rows;
                  few = omega (arith, few);
                  walk = kept-here old ps c.requires.places.0 now at.slot at.place at.kept full.0 so.walk below (deref ∙ full.1) here.0 here.1;
                })
            | else-is_at w' ↦
                rw (w.self-is, w.place-is, w.kept-is, w'.self-is, w'.kept-is) (record {
                  rows = w'.remove.ensures.rows;
                  few = omega (arith, few);
                  walk = subst (λ (s : Slots). IsKept old ps s (at.slot + 1) (at.place + 1) at.kept) (sym w'.remove.ensures.slots)
                      (kept-out old ps c.requires.places.0 now at.slot at.place at.kept full.0 so.walk below (deref ∙ full.1) (isnt_number ps at.kept at.place (sym w.is_at.ensures ∙ w'.if-is_at.false)));
                })
          ]
      | else-is_full w ↦ rw (w.self-is, w.place-is, w.kept-is) (record {
        rows = so.rows;
        few = omega (arith, few);
        walk = kept-empty old ps now at.slot at.place at.kept so.walk below (deref ∙ empty_none (slot_at c.deref.result.now at.slot) (sym c.is_full.ensures ∙ w.if-is_full.false));
      })
    ]

pub returns-clause-cookies : goal.returns-clause-cookies
returns-clause-cookies c =
    let at = c.loop-slot in
    kept-all c.args.self.now.slots.items c.args.places.now at.self.slots.items at.slot at.place at.kept at.invariant.walk (omega arith) c.requires.places.1
