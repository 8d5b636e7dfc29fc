-- The host of a cookie that is sent is in its domain.
use Rattle.std.proofs.Common.{◌≡◌, true, false, sym, subst}
use Rattle.cookie_browser.specs.Request.{is_in_domain}
use Rattle.cookie_agent.specs.RowsCode.{slot_at}
use Rattle.cookie_browser.specs.Storage.{is_sent}
use Rattle.cookie_agent.proofs.NumberLemmas.{places-ascend, places-kept}
use Rattle.cookie_agent.proofs.RowLemmas.{sent-domain}
use Rattle.cookie_agent.proofs.SlotLemmas.{has_some}
use Rattle.cookie_agent.proofs.rows.Rows.places.Goals as goal

pub returns-clause-ascend : goal.returns-clause-ascend
returns-clause-ascend c =
    places-ascend c.in_ok-places.places.items c.sort_unstable.new.self.items c.dedup.new.self.items c.sort_unstable.ensures.permutation c.dedup.ensures.filtered c.sort_unstable.ensures.sorted

pub returns-clause-sent : goal.returns-clause-sent
returns-clause-sent c now place sent =
    let site = c.args.site.now in
    let found = has_some (is_sent site now) (slot_at c.args.self.now.slots.items place) sent in
    let cookie = found.0 in
    let inside : is_in_domain c.host.result.now false cookie.domain ≡ true
    = subst (λ h. is_in_domain h false cookie.domain ≡ true) (sym c.host.ensures) (sent-domain site now cookie found.2) in
    places-kept c.in_ok-places.places.items c.sort_unstable.new.self.items c.dedup.new.self.items c.sort_unstable.ensures.permutation c.dedup.ensures.filtered place
    (c.in_ok-places.ensures cookie.domain place inside (c.requires.listed place cookie found.1))
