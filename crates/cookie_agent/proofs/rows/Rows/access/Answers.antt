-- One more slot is as after the request. The others have no cookie that is sent.
use Rattle.std.proofs.Common.{◌≡◌, inl, inr, length, get_or, option_map, take, sym, ap, subst, ◌∙◌, ⊎_elim, arith}
use Rattle.std.proofs.lemmas.Bool.{cases_eq}
use Rattle.std.proofs.lemmas.List.{length-map, length-set, take_all, take_more}
use Rattle.std.proofs.lemmas.List.Elements.{Contains-push_cases}
use Rattle.std.specs.List.{Contains}
use Rattle.cookie_agent.specs.RowsCode.{AreListed, AreTimed, Slots, held, slot_at}
use Rattle.cookie_agent.specs.Sent.{accessed}
use Rattle.cookie_agent.proofs.SlotLemmas.{all-accessed, each-accessed, held-mapped, listed-accessed}
use Rattle.cookie_agent.proofs.TimedLemmas.{timed-accessed}
use Rattle.cookie_agent.proofs.rows.Rows.access.Goals as goal

pub loop-place-preserved : goal.loop-place-preserved
loop-place-preserved c =
    let site = c.args.site.now in
    let now = c.args.now in
    let these = c.args.places.now in
    let slots : Slots = c.loop-place.self.slots.items in
    let old : Slots = c.args.self.now.slots.items in
    let i = c.loop-place.place-index in
    let p = get_or these i 0 in
    let so = c.loop-place.invariant in
    let more = take_more these i 0 c.loop-place-test.true in
    let at = each-accessed site now slots old p so.each in
    rw c.access.ensures (record {
      index = so.index;
      expiries = so.expiries;
      empty = so.empty;
      long = length-set slots p (option_map (accessed site now) (slot_at slots p)) ∙ so.long;
      each = λ k. ⊎_elim (λ is. inr ((at k).0 is)) (λ other. ⊎_elim (λ same. inl ((at k).1 other ∙ same)) (λ was. inr ((at k).1 other ∙ was)) (so.each k)) (cases_eq k p);
      done = λ k here. ⊎_elim (λ before. ⊎_elim (λ is. (at k).0 is) (λ other. (at k).1 other ∙ so.done k before) (cases_eq k p)) (λ is. (at k).0 (sym is))
          (Contains-push_cases (take i these) p k (subst (λ l. Contains l k) more here));
    })

pub returns-clause-cookies : goal.returns-clause-cookies
returns-clause-cookies c =
    let site = c.args.site.now in
    let now = c.args.now in
    let slots : Slots = c.loop-place.self.slots.items in
    let old : Slots = c.args.self.now.slots.items in
    let so = c.loop-place.invariant in
    let ended = take_all c.loop-place.place-index c.args.places.now (omega arith) in
    held-mapped (accessed site now) slots old so.long
    (all-accessed site now slots old c.args.places.now so.each (λ k here. so.done k (subst (λ l. Contains l k) (sym ended) here)) c.requires.sent)

pub returns-clause-rows : goal.returns-clause-rows
returns-clause-rows c =
    let site = c.args.site.now in
    let now = c.args.now in
    let slots : Slots = c.loop-place.self.slots.items in
    let old : Slots = c.args.self.now.slots.items in
    let so = c.loop-place.invariant in
    let ended = take_all c.loop-place.place-index c.args.places.now (omega arith) in
    let all = all-accessed site now slots old c.args.places.now so.each (λ k here. so.done k (subst (λ l. Contains l k) (sym ended) here)) c.requires.sent in
    let same : length (held slots) ≡ length (held old)
    = ap (λ l. length l) (held-mapped (accessed site now) slots old so.long all) ∙ length-map (held old) (accessed site now) in
    let empty = so.empty in
    let long = so.long in
    let counted = c.requires.rows.counted in
    record {
      timed = subst (λ e. AreTimed e slots) (sym so.expiries) (timed-accessed site now c.args.self.now.expiries slots old all c.requires.rows.timed);
      listed = subst (λ i. AreListed i slots) (sym so.index) (listed-accessed site now c.args.self.now.index slots old all c.requires.rows.listed);
      counted = omega (arith, same, empty, long, counted);
    }
