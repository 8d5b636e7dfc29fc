-- Of cookies that differ, only that one can give place.
use Rattle.std.proofs.Common.{◌≡◌, false, sym, ap, ◌∙◌}
use Rattle.std.proofs.lemmas.List.Elements.{All-from_get_or}
use Rattle.cookie_browser.specs.RefusedCode.{kept_view}
use Rattle.cookie_browser.specs.Storage.{CookieStore, KeptView, is_same_cookie, lasts}
use Rattle.cookie_agent.specs.LimitsCode.{blank}
use Rattle.cookie_agent.specs.RowsCode.{Slots, has, held, slot_at}
use Rattle.cookie_agent.specs.StoredCode.{gives_place}
use Rattle.cookie_agent.proofs.RowLemmas.{none-gives}
use Rattle.cookie_agent.proofs.SlotLemmas.{at-place, has_some, some_has}
use Rattle.cookie_agent.proofs.rows.Rows.find_lasting.Goals as goal

pub returns-else-lasts_in : goal.returns-else-lasts_in
returns-else-lasts_in c =
    let kept : KeptView = kept_view c.args.kept.now in
    let now = c.args.now in
    let slots : Slots = c.args.self.now.slots.items in
    let cookies : CookieStore = held slots in
    let place = c.in_ok-place.place in
    let found = has_some (λ d. is_same_cookie d kept) (slot_at slots place) c.in_ok-place.ensures in
    let at = at-place slots place found.0 found.1 in
    let past : lasts found.0.expiry now ≡ false
    = sym (some_has (λ d. lasts d.expiry now) (slot_at slots place) found.0 found.1)
    ∙ ap (λ (s : Slots). has (λ d. lasts d.expiry now) (slot_at s place)) (sym c.deref.ensures.value) ∙ sym c.lasts_in.ensures ∙ c.if-lasts_in.false in
    All-from_get_or (λ d. gives_place kept now d ≡ false) cookies blank
    (none-gives kept blank now cookies c.requires.apart at.place at.below
    (ap (λ (d : KeptView). is_same_cookie d kept) (at.at blank) ∙ found.2)
    (ap (λ (d : KeptView). lasts d.expiry now) (at.at blank) ∙ past))
