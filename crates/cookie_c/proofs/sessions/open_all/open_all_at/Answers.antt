use Rattle.std.proofs.Common.{List, ap, inl, inr, map, refl, rules, subst, ◌∙◌}
use Rattle.cookie.specs.Record.{Record}
use Rattle.cookie_session.specs.Sessions.{AreFound, EachHoldsOne, site_cookies}
use Rattle.cookie_c.specs.Handles.{IsPut}
use Rattle.cookie_c.specs.OpenedSessions.{opened_of}
use Rattle.cookie_c.proofs.SiteLemmas.{at_second}
use Rattle.cookie_c.proofs.sessions.open_all.open_all_at.Goals as goal

pub returns-in-Ok-open_all : goal.returns-in-Ok-open_all
returns-in-Ok-open_all c =
    let site = c.sessions-sessions.result in
    let time = c.in-Some.time in
    let all = c.in-Ok-open_all.all.items in
    let is = c.in-Ok-open_all.ensures in
    let (found, once) = subst (λ (cookies : List Record). AreFound site time (site_cookies site cookies) all × EachHoldsOne site (site_cookies site cookies))
    (ap (map (λ k. k.fields)) c.deref.ensures.value ∙ c.in-Ok.ensures) (is.found, is.once) in
    let put : IsPut all c.set.result (opened_of c.args.opened.now) (opened_of (record { handle = c.set.new.self })) = search rules in
    at_second _ _ _ time c.in-Some.ensures (site, c.sessions-sessions.ensures, inl (all, found, once, put))

pub returns : goal.returns
returns c = at_second _ _ _ c.in-Some.time c.in-Some.ensures (c.sessions-sessions.result, c.sessions-sessions.ensures, inr (refl, refl))

pub returns-in_default-field_cookies : goal.returns-in_default-field_cookies
returns-in_default-field_cookies c = at_second _ _ _ c.in-Some.time c.in-Some.ensures (c.sessions-sessions.result, c.sessions-sessions.ensures, inr (refl, refl))
