-- What stays is apart, and if no limit is exceeded, all that lasts stays.
use Rattle.std.proofs.Common.{◌≡◌, ◌<◌, All, filter, length, sym, ap, subst, ◌∙◌}
use Rattle.cookie_browser.specs.Storage.{CookieStore}
use Rattle.cookie_agent.specs.Limits.{is_of_site, trimmed}
use Rattle.cookie_agent.specs.LimitsCode.{picked}
use Rattle.cookie_agent.specs.Stored.{IsApart}
use Rattle.cookie_agent.specs.RowsCode.{held}
use Rattle.cookie_agent.proofs.ApartLemmas.{apart-trimmed, trimmed-all, trimmed-part}
use Rattle.cookie_agent.proofs.store.Store.trim.Goals as goal

pub invariant_of-self : goal.invariant_of-self
invariant_of-self c =
    let list = c.args.suffixes.now in
    let limits = c.args.limits in
    let now = c.args.now in
    let old : CookieStore = c.args.self.now in
    let inside : CookieStore = (held c.self.inside.rows.slots.items) in
    let places = c.in_ok-places.places.items in
    let here : (held c.keep.new.self.slots.items) ≡ picked inside places = c.keep.ensures.cookies ∙ ap (picked inside) c.deref.ensures.value in
    let left : (held c.keep.new.self.slots.items) ≡ trimmed list limits now old
    = here ∙ ap (λ (s : CookieStore). picked s places) (c.self.view_is ∙ sym c.cookies.ensures.value)
    ∙ c.in_ok-places.ensures.value ∙ ap (λ (s : CookieStore). trimmed list limits now s) c.cookies.ensures.value in
    let below : All (λ p. p < length inside) places
    = subst (λ (s : CookieStore). All (λ p. p < length s) places) (c.cookies.ensures.value ∙ sym c.self.view_is) c.in_ok-places.ensures.in_order.1 in
    record {
      apart = subst IsApart (sym left) (apart-trimmed list limits now old c.cookies.ensures.apart);
      rows = c.keep.ensures.rows;
    }

pub returns-clause-needed : goal.returns-clause-needed
returns-clause-needed c within =
    let list = c.args.suffixes.now in
    let limits = c.args.limits in
    let now = c.args.now in
    let old : CookieStore = c.args.self.now in
    let inside : CookieStore = (held c.self.inside.rows.slots.items) in
    let places = c.in_ok-places.places.items in
    let here : (held c.keep.new.self.slots.items) ≡ picked inside places = c.keep.ensures.cookies ∙ ap (picked inside) c.deref.ensures.value in
    let left : (held c.keep.new.self.slots.items) ≡ trimmed list limits now old
    = here ∙ ap (λ (s : CookieStore). picked s places) (c.self.view_is ∙ sym c.cookies.ensures.value)
    ∙ c.in_ok-places.ensures.value ∙ ap (λ (s : CookieStore). trimmed list limits now s) c.cookies.ensures.value in
    left ∙ trimmed-all list limits now old within

pub returns-clause-apart : goal.returns-clause-apart
returns-clause-apart c room domain =
    let list = c.args.suffixes.now in
    let limits = c.args.limits in
    let now = c.args.now in
    let old : CookieStore = c.args.self.now in
    let inside : CookieStore = (held c.self.inside.rows.slots.items) in
    let places = c.in_ok-places.places.items in
    let here : (held c.keep.new.self.slots.items) ≡ picked inside places = c.keep.ensures.cookies ∙ ap (picked inside) c.deref.ensures.value in
    let left : (held c.keep.new.self.slots.items) ≡ trimmed list limits now old
    = here ∙ ap (λ (s : CookieStore). picked s places) (c.self.view_is ∙ sym c.cookies.ensures.value)
    ∙ c.in_ok-places.ensures.value ∙ ap (λ (s : CookieStore). trimmed list limits now s) c.cookies.ensures.value in
    ap (filter (is_of_site list domain)) left ∙ trimmed-part list domain limits now old room
