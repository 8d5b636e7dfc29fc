-- A slot whose number is taken off the list is empty then, or has a cookie that isn't expired.
use Rattle.std.proofs.Common.{◌≡◌, ℤ, SFits, to_z, of_z, true, false, not, None, inr, sym, subst, ◌∙◌, arith}
use Rattle.std.proofs.lemmas.Int.{to_z-of_z}
use Rattle.std.proofs.lemmas.List.{length-set}
use Rattle.std.specs.Int.{w128}
use Rattle.cookie_browser.specs.Storage.{lasts}
use Rattle.cookie_agent.specs.RowsCode.{Slots, has, slot_at}
use Rattle.cookie_agent.proofs.SlotLemmas.{at-place, has_some, listed-out}
use Rattle.cookie_agent.proofs.TimedLemmas.{after-lasts, not_true, rid-all, rid-out, timed-due, timed-out}
use Rattle.cookie_agent.proofs.rows.Rows.evict.Goals as goal

-- the time as the variable keeps it
abbrev kept : ℤ → ℤ
kept time = to_z w128 (of_z w128 time)

kept_is : (time : ℤ) → SFits w128 time → kept time ≡ time
kept_is time fits = to_z-of_z w128 time fits

pub loop-place-preserved : goal.loop-place-preserved
loop-place-preserved c =
    let now = c.args.now in
    let slots : Slots = c.loop-place.self.slots.items in
    let place = c.in-Some.place in
    let so = c.loop-place.invariant in
    let fresh = subst (λ (s : Slots). has (λ d. not (lasts d.expiry now)) (slot_at s place) ≡ false) c.deref.ensures.value (sym c.is_expired_in.ensures ∙ c.if-is_expired_in.false) in
    record {
      rows = record {
        listed = so.rows.listed;
        timed = timed-due c.loop-place.self.expiries c.pop_due.new.self slots place now (kept c.nanos_of-time.result) so.rows.timed (kept_is c.nanos_of-time.result (record { sfits = c.nanos_of-time.type_inv }) ∙ c.nanos_of-time.ensures.value) c.in-Some.ensures.due fresh;
        counted = so.rows.counted;
      };
      rid = so.rid;
    }

pub loop-place-preserved-then-is_expired_in : goal.loop-place-preserved-then-is_expired_in
loop-place-preserved-then-is_expired_in c =
    let now = c.args.now in
    let rows = c.loop-place.self in
    let slots : Slots = rows.slots.items in
    let place = c.in-Some.place in
    let so = c.loop-place.invariant in
    let expired = subst (λ (s : Slots). has (λ d. not (lasts d.expiry now)) (slot_at s place) ≡ true) c.deref.ensures.value (sym c.is_expired_in.ensures ∙ c.if-is_expired_in.true) in
    let found = has_some (λ d. not (lasts d.expiry now)) (slot_at slots place) expired in
    let fewer = (at-place slots place found.0 found.1).fewer in
    let long = length-set slots place None in
    let counted = so.rows.counted in
    record {
      rows = record {
        listed = listed-out rows.index slots place so.rows.listed;
        timed = timed-out rows.expiries c.pop_due.new.self slots so.rows.timed place (λ n o other at. c.in-Some.ensures.due n o at (inr other));
        counted = omega (arith, fewer, long, counted);
      };
      rid = rid-out (λ d. lasts d.expiry now) c.args.self.now.slots.items slots place found.0 so.rid found.1 (not_true (lasts (found.0).expiry now) found.2);
    }

pub returns-clause-cookies : goal.returns-clause-cookies
returns-clause-cookies c =
    let now = c.args.now in
    let so = c.loop-place.invariant in
    rid-all (λ d. lasts d.expiry now) c.args.self.now.slots.items c.loop-place.self.slots.items so.rid
    (λ k d e. after-lasts now (kept c.nanos_of-time.result) d.expiry (kept_is c.nanos_of-time.result (record { sfits = c.nanos_of-time.type_inv }) ∙ c.nanos_of-time.ensures.value) (c.in_default.ensures.due k d.expiry (so.rows.timed k d e)).1)

pub returns-clause-rows : goal.returns-clause-rows
returns-clause-rows c =
    let so = c.loop-place.invariant in
    record {
      listed = so.rows.listed;
      timed = λ k d e. (c.in_default.ensures.due k d.expiry (so.rows.timed k d e)).0;
      counted = so.rows.counted;
    }
