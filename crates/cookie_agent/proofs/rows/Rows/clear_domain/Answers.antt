-- One more cookie stays, or goes.
use Rattle.std.proofs.Common.{◌+◌, not, None, Some, Bool, cond, sym, ap, subst, ◌∙◌, arith}
use Rattle.cookie_browser.specs.Storage.{KeptView}
use Rattle.cookie_agent.specs.RowsCode.{Slots, slot_at}
use Rattle.cookie_agent.specs.Stored.{is_of_domain}
use Rattle.cookie_agent.proofs.SlotLemmas.{IsSwept, left, swept-all, swept-none, swept-out, swept-stay}
use Rattle.cookie_agent.proofs.rows.Rows.clear_domain.Goals as goal
use Rattle.cookie_agent.proofs.rows.Rows.clear_domain.Goals.{in-Some+then-is_of_domain, in-Some+else-is_of_domain, in_default}

pub loop-place-init : goal.loop-place-init
loop-place-init c = record {
  rows = c.requires;
  swept = swept-none (λ d. not (is_of_domain c.args.domain.now d)) c.args.self.now.slots.items;
}

pub loop-place-preserved : goal.loop-place-preserved
loop-place-preserved c =
    let test : KeptView → Bool = λ d. not (is_of_domain c.args.domain.now d) in
    let old : Slots = c.args.self.now.slots.items in
    let now : Slots = c.loop-place.self.slots.items in
    let p = c.loop-place.place in
    let so = c.loop-place.invariant in
    let deref = ap (λ (s : Slots). slot_at s p) (sym c.deref.ensures.value) in
    elim c.match-cookie_in.branch [
      | in-Some+then-is_of_domain w ↦ rw w.self-is (record {
        rows = w.remove.ensures.rows;
        swept = subst (λ (s : Slots). IsSwept test old s (p + 1)) (sym w.remove.ensures.slots)
            (swept-out test old now p w.in-Some.cookie.now so.swept (deref ∙ w.in-Some.ensures) (ap (λ b. not b) (sym w.is_of_domain.ensures ∙ w.if-is_of_domain.true)));
      })
      | in-Some+else-is_of_domain w ↦ rw w.self-is (record {
        rows = so.rows;
        swept = swept-stay test old now p so.swept (ap (left test) (deref ∙ w.in-Some.ensures) ∙ ap (λ b. cond b (Some w.in-Some.cookie.now) None) (ap (λ b. not b) (sym w.is_of_domain.ensures ∙ w.if-is_of_domain.false)) ∙ sym (deref ∙ w.in-Some.ensures));
      })
      | in_default w ↦ rw w.self-is (record {
        rows = so.rows;
        swept = swept-stay test old now p so.swept (ap (left test) (deref ∙ w.in_default.ensures) ∙ sym (deref ∙ w.in_default.ensures));
      })
    ]

pub returns-clause-cookies : goal.returns-clause-cookies
returns-clause-cookies c =
    swept-all (λ d. not (is_of_domain c.args.domain.now d)) c.args.self.now.slots.items c.loop-place.self.slots.items c.loop-place.place (omega arith) c.loop-place.invariant.swept
