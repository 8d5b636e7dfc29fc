-- The cookie of one more slot isn't the same, or was found.
use Rattle.std.proofs.Common.{◌≡◌, false, get_or, take, sym, ap, subst, ◌∙◌, ⊎_elim, arith}
use Rattle.std.proofs.lemmas.List.{take_all, take_more}
use Rattle.std.proofs.lemmas.List.Elements.{Contains-push_cases}
use Rattle.std.specs.List.{Contains}
use Rattle.cookie_browser.specs.RefusedCode.{kept_view}
use Rattle.cookie_browser.specs.Storage.{KeptView, is_same_cookie}
use Rattle.cookie_agent.specs.RowsCode.{Slots, has, slot_at}
use Rattle.cookie_agent.proofs.SlotLemmas.{some_has}
use Rattle.cookie_agent.proofs.rows.same_among.Goals as goal
use Rattle.cookie_agent.proofs.rows.same_among.Goals.{in-Some+else-is_same, in_default}

pub loop-place-preserved : goal.loop-place-preserved
loop-place-preserved c k here =
    let these = c.args.these.now in
    let slots : Slots = c.args.slots.now in
    let i = c.loop-place.place-index in
    let number = get_or these i 0 in
    let kept : KeptView = kept_view c.args.kept.now in
    let more = take_more these i 0 c.loop-place-test.true in
    ⊎_elim (λ before. c.loop-place.invariant k before)
    (λ is. subst (λ j. has (λ d. is_same_cookie d kept) (slot_at slots j) ≡ false) is
    (elim c.match-cookie_in.branch [
      | in-Some+else-is_same w ↦ some_has (λ d. is_same_cookie d kept) (slot_at slots number) w.in-Some.cookie.now w.in-Some.ensures ∙ sym w.is_same.ensures ∙ w.if-is_same.false
      | in_default w ↦ ap (has (λ d. is_same_cookie d kept)) w.in_default.ensures
    ]))
    (Contains-push_cases (take i these) number k (subst (λ l. Contains l k) more here))

pub returns : goal.returns
returns c k here =
    c.loop-place.invariant k (subst (λ l. Contains l k) (sym (take_all c.loop-place.place-index c.args.these.now (omega arith))) here)
