-- What would be overlaid is in one of the slots.
use Rattle.std.proofs.Common.{◌≡◌, ◌&&◌, Bool, false, get_or, sym, subst, ◌∙◌, ⊎_elim, arith}
use Rattle.std.proofs.lemmas.Bool.{and_parts, cases_lt}
use Rattle.cookie_browser.specs.RefusedCode.{kept_view, request_view}
use Rattle.cookie_browser.specs.Storage.{KeptView, is_overlaid, lasts}
use Rattle.cookie_agent.specs.IndexCode.{is_around}
use Rattle.cookie_agent.specs.RowsCode.{Slots, has, held, slot_at}
use Rattle.cookie_agent.proofs.RefusalLemmas.{any_lasting, none_pass, one_passes, overlaid-around}
use Rattle.cookie_agent.proofs.overlaid.any_overlaid.Goals as goal

pub loop-place-preserved : goal.loop-place-preserved
loop-place-preserved c k lt =
    let overlaid : KeptView → Bool = λ o. lasts o.expiry c.args.now && is_overlaid (request_view c.args.request.now) (kept_view c.args.new.now) o in
    let index = c.loop-place.place-index in
    ⊎_elim (λ before. c.loop-place.invariant k before)
    (λ from. let here : index ≡ k = omega arith in
    subst (λ j. has overlaid (slot_at c.args.slots.now (get_or c.args.places.now j 0)) ≡ false) here (sym c.is_overlaid_in.ensures ∙ c.if-is_overlaid_in.false)) (cases_lt k index)

pub returns-then-is_overlaid_in : goal.returns-then-is_overlaid_in
returns-then-is_overlaid_in c =
    let slots : Slots = c.args.slots.now in
    let overlaid : KeptView → Bool = is_overlaid (request_view c.args.request.now) (kept_view c.args.new.now) in
    sym (any_lasting c.args.now overlaid (held slots) ∙ one_passes (λ o. lasts o.expiry c.args.now && overlaid o) slots (get_or c.args.places.now c.loop-place.place-index 0)
    (sym c.is_overlaid_in.ensures ∙ c.if-is_overlaid_in.true))

pub returns : goal.returns
returns c =
    let slots : Slots = c.args.slots.now in
    let overlaid : KeptView → Bool = is_overlaid (request_view c.args.request.now) (kept_view c.args.new.now) in
    let domain = (kept_view c.args.new.now).domain in
    sym (any_lasting c.args.now overlaid (held slots) ∙ none_pass (λ o. lasts o.expiry c.args.now && overlaid o) (λ o. is_around domain o.domain) slots c.args.places.now
    (λ o e. overlaid-around (request_view c.args.request.now) (kept_view c.args.new.now) o (and_parts (lasts o.expiry c.args.now) (overlaid o) e).1)
    c.requires
    (λ k lt. c.loop-place.invariant k (omega (arith, lt))))
