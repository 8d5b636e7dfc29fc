-- The one of the name and the scope goes.
use Rattle.std.proofs.Common.{◌≡◌, All, false, filter, not, sym, ap, subst, ◌∙◌}
use Rattle.std.proofs.lemmas.List.Folds.{list_any_at, list_any_none}
use Rattle.std.specs.List.{list_any, remove}
use Rattle.cookie_browser.specs.Storage.{CookieStore}
use Rattle.cookie_agent.specs.LimitsCode.{blank}
use Rattle.cookie_agent.specs.RowsCode.{Slots, held, slot_at}
use Rattle.cookie_agent.specs.Stored.{IsApart, is_named_in}
use Rattle.cookie_agent.proofs.RowLemmas.{apart-remove, named-none, named-removed}
use Rattle.cookie_agent.proofs.SlotLemmas.{at-place, has_full, has_some}
use Rattle.cookie_agent.proofs.store.Store.remove.Goals as goal

pub remove-requires-clause-full : goal.remove-requires-clause-full
remove-requires-clause-full c = has_full (is_named_in c.args.name.now c.args.scope.now) (slot_at c.self.inside.rows.slots.items c.in-Some.place) c.in-Some.ensures

pub invariant_of-self : goal.invariant_of-self
invariant_of-self c =
    let inside = c.self.inside in
    let slots : Slots = inside.rows.slots.items in
    let found = has_some (is_named_in c.args.name.now c.args.scope.now) (slot_at slots c.in-Some.place) c.in-Some.ensures in
    let at = at-place slots c.in-Some.place found.0 found.1 in
    let out : held c.remove.new.self.slots.items ≡ remove (held slots) at.place = ap held c.remove.ensures.slots ∙ at.out in
    record {
      apart = subst IsApart (sym out) (apart-remove (held slots) at.place c.self.invariant.apart);
      rows = c.remove.ensures.rows;
    }

pub returns-in-Some-clause-value : goal.returns-in-Some-clause-value
returns-in-Some-clause-value c =
    let named = is_named_in c.args.name.now c.args.scope.now in
    let slots : Slots = c.self.inside.rows.slots.items in
    let found = has_some named (slot_at slots c.in-Some.place) c.in-Some.ensures in
    let at = at-place slots c.in-Some.place found.0 found.1 in
    ap held c.remove.ensures.slots ∙ at.out
    ∙ sym (named-removed c.args.name.now c.args.scope.now (held slots) c.self.invariant.apart at.place at.below (ap named (at.at blank) ∙ found.2))
    ∙ ap (λ (s : CookieStore). filter (λ d. not (named d)) s) c.self.view_is

pub returns-in-Some-clause-found : goal.returns-in-Some-clause-found
returns-in-Some-clause-found c =
    let named = is_named_in c.args.name.now c.args.scope.now in
    let slots : Slots = c.self.inside.rows.slots.items in
    let found = has_some named (slot_at slots c.in-Some.place) c.in-Some.ensures in
    let at = at-place slots c.in-Some.place found.0 found.1 in
    sym (list_any_at named (held slots) at.place blank at.below (ap named (at.at blank) ∙ found.2))
    ∙ ap (λ (s : CookieStore). list_any named s) c.self.view_is

pub returns-in-None-clause-value : goal.returns-in-None-clause-value
returns-in-None-clause-value c =
    sym (named-none c.args.name.now c.args.scope.now c.args.self.now (subst (λ (s : CookieStore). All (λ d. is_named_in c.args.name.now c.args.scope.now d ≡ false) s) c.self.view_is c.in-None.ensures))

pub returns-in-None-clause-found : goal.returns-in-None-clause-found
returns-in-None-clause-found c =
    let named = is_named_in c.args.name.now c.args.scope.now in
    sym (list_any_none named c.args.self.now (subst (λ (s : CookieStore). All (λ d. named d ≡ false) s) c.self.view_is c.in-None.ensures))
