-- The slots that stay are full.
use Rattle.std.proofs.Common.{◌≡◌, ◌+◌, filter, is_some, length, rules, sym, ap, subst, ◌∙◌, arith}
use Rattle.std.proofs.lemmas.Fn.{filter_same}
use Rattle.cookie_agent.specs.RowsCode.{AreListed, AreTimed, Slots, held}
use Rattle.cookie_agent.proofs.SlotLemmas.{held-packed, packed-long}
use Rattle.cookie_agent.proofs.rows.Rows.pack.Goals as goal

pub returns-in_ok-index-clause-cookies : goal.returns-in_ok-index-clause-cookies
returns-in_ok-index-clause-cookies c =
    let slots : Slots = c.args.self.now.slots.items in
    let left : c.retain.new.self.items ≡ filter is_some slots = filter_same _ is_some _ (λ x b f h. search rules) _ _ c.retain.ensures.filtered in
    ap held left ∙ held-packed slots

pub returns-in_ok-index-clause-rows : goal.returns-in_ok-index-clause-rows
returns-in_ok-index-clause-rows c =
    let slots : Slots = c.args.self.now.slots.items in
    let left : c.retain.new.self.items ≡ filter is_some slots = filter_same _ is_some _ (λ x b f h. search rules) _ _ c.retain.ensures.filtered in
    record {
      listed = subst (AreListed c.in_ok-index.index) (ap (filter is_some) c.deref.ensures.value ∙ sym left) c.in_ok-index.ensures.listed;
      timed = subst (AreTimed c.in_ok-index.expiries) (ap (filter is_some) c.deref.ensures.value ∙ sym left) c.in_ok-index.ensures.timed;
      counted = (let none : 0 + length (held c.retain.new.self.items) ≡ length (held c.retain.new.self.items) = omega arith in none) ∙ ap (λ s. length (held s)) left ∙ ap (λ l. length l) (held-packed slots) ∙ sym (packed-long slots) ∙ sym (ap (λ s. length s) left);
    }
