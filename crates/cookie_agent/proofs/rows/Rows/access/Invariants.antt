-- Each slot is as before or as after the request, and those so far are as after it.
use Rattle.std.proofs.Common.{◌≡◌, ◌⊎◌, ℕ, Contains, length, option_map, take}
use Rattle.cookie_agent.specs.RowsCode.{slot_at}
use Rattle.cookie_agent.specs.Sent.{accessed}
use Rattle.cookie_agent.proofs.rows.Rows.access.Given as goal

abbrev pub invariant-loop-place : goal.invariant-loop-place
invariant-loop-place l = record {
  index : l.self.index ≡ l.initial.self.index;
  expiries : l.self.expiries ≡ l.initial.self.expiries;
  empty : l.self.empty ≡ l.initial.self.empty;
  long : length l.self.slots.items ≡ length l.initial.self.slots.items;
  each : (k : ℕ) → (slot_at l.self.slots.items k ≡ slot_at l.initial.self.slots.items k)
      ⊎ (slot_at l.self.slots.items k ≡ option_map (accessed l.site l.now) (slot_at l.initial.self.slots.items k));
  done : (k : ℕ) → Contains (take l.place-index l.places) k
      → slot_at l.self.slots.items k ≡ option_map (accessed l.site l.now) (slot_at l.initial.self.slots.items k);
}
