-- A cookie that is the same is of the domain, so its slot is at the domain.
use Rattle.std.proofs.Common.{◌≡◌, List, ℕ, reverse, sym, ap, ◌∙◌}
use Rattle.cookie_browser.specs.RefusedCode.{kept_view}
use Rattle.cookie_browser.specs.Storage.{KeptView, is_same_cookie}
use Rattle.cookie_agent.specs.IndexCode.{numbers_at}
use Rattle.cookie_agent.specs.RowsCode.{Slots, has, slot_at}
use Rattle.cookie_agent.proofs.RowLemmas.{MatchOption-weaker}
use Rattle.cookie_agent.proofs.SlotLemmas.{none-same}
use Rattle.cookie_agent.proofs.rows.Rows.find.Goals as goal

pub returns : goal.returns
returns c =
    let rows = c.args.self.now in
    let kept : KeptView = kept_view c.args.kept.now in
    let these = c.at.result.now in
    let is : these ≡ numbers_at rows.index (reverse kept.domain) = c.at.ensures ∙ ap (λ (k : List ℕ). numbers_at rows.index k) c.requires.key in
    MatchOption-weaker c.same_among.result _ _ _ _
    (λ none. none-same rows kept these c.requires.rows is (λ k here. ap (λ (s : Slots). has (λ d. is_same_cookie d kept) (slot_at s k)) (sym c.deref.ensures.value) ∙ none k here))
    (λ place is. ap (λ (s : Slots). has (λ d. is_same_cookie d kept) (slot_at s place)) (sym c.deref.ensures.value) ∙ is)
    c.same_among.ensures
