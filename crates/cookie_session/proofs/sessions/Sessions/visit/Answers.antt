use Rattle.std.proofs.Common.{rules, ◌≡◌, ℕ, Bool, true, false, List, None, map, refl, sym, ap, ◌∙◌}
use Rattle.std.proofs.lemmas.Option.{none-some, same_Some}
use Rattle.cookie.specs.Record.{CookieView, Record}
use Rattle.cookie_session.specs.Session.{SessionState}
use Rattle.cookie_session.specs.Sessions.{OpensNone}
use Rattle.cookie_session.specs.Visit.{VisitState, opened_visit}
use Rattle.cookie_session.specs.declared.opened.Opened.{Opened}
use Rattle.cookie_session.proofs.FirstLemmas.{empty_none, none_found}
use Rattle.cookie_session.proofs.SessionLemmas.{opened}
use Rattle.cookie_session.proofs.UnrevokedLemmas.{first_opens, one_opens}
use Rattle.cookie_session.proofs.VisitLemmas.{is_none, is_some, same_visit}
use Rattle.cookie_session.proofs.sessions.Sessions.visit.Goals as goal

abbrev fields : List CookieView → List Record
fields cookies = map (λ c. c.fields) cookies

pub returns-in_err-opened-clause-unasked : goal.returns-in_err-opened-clause-unasked
returns-in_err-opened-clause-unasked g c none =
    let asked = c.first_unrevoked.ensures.unasked (none_found c.args.self.now c.args.now (fields c.args.cookies.now) c.in_ok-found.found.items c.in_ok-found.ensures.found none) in
    (asked.0, λ error e. search rules)

pub returns-in_err-start-in-None-clause-unasked : goal.returns-in_err-start-in-None-clause-unasked
returns-in_err-start-in-None-clause-unasked g c none =
    let asked = c.first_unrevoked.ensures.unasked (none_found c.args.self.now c.args.now (fields c.args.cookies.now) c.in_ok-found.found.items c.in_ok-found.ensures.found none) in
    (asked.0, λ error e. search rules)

pub returns-in-Some-clause-unasked : goal.returns-in-Some-clause-unasked
returns-in-Some-clause-unasked g c none =
    let asked = c.first_unrevoked.ensures.unasked (none_found c.args.self.now c.args.now (fields c.args.cookies.now) c.in_ok-found.found.items c.in_ok-found.ensures.found none) in
    (asked.0, λ error e. search rules)

pub returns-in_ok-start-in-None-clause-unasked : goal.returns-in_ok-start-in-None-clause-unasked
returns-in_ok-start-in-None-clause-unasked g c none =
    let asked = c.first_unrevoked.ensures.unasked (none_found c.args.self.now c.args.now (fields c.args.cookies.now) c.in_ok-found.found.items c.in_ok-found.ensures.found none) in
    (asked.0, λ error e. search rules)

pub returns-in-Some-clause-answers : goal.returns-in-Some-clause-answers
returns-in-Some-clause-answers g c kept place s =
    let set = g.R.Revocations.revoked_until c.args.revocations.now in
    let found = c.in-Some.opened in
    let right = first_opens c.args.self.now c.args.now (fields c.args.cookies.now) c.in_ok-found.found.items c.in_ok-found.ensures.found set c.in_ok-opened.field-0
    (c.in_ok-opened.ensures.first kept) place s in
    (λ e. right.0 (c.in-Some.is ∙ (same_visit found s place).0 (sym c.of.ensures ∙ e)), λ opens. c.of.ensures ∙ (same_visit found s place).1 (sym c.in-Some.is ∙ right.1 opens))

pub returns-in-Some-clause-sealed : goal.returns-in-Some-clause-sealed
returns-in-Some-clause-sealed g c place is =
    let found = c.in-Some.opened in
    let at : found.place ≡ place = same_Some found.place place (sym (ap (λ (v : VisitState). v.place) c.of.ensures) ∙ is) in
    let session : c.of.result.session ≡ found.session = ap (λ (v : VisitState). v.session) c.of.ensures in
    let same : opened_visit found.session found.place ≡ opened_visit c.of.result.session place =
    ap (λ (n : ℕ). opened_visit found.session n) at ∙ ap (λ (x : SessionState). opened_visit x place) (sym session) in (
      c.of.ensures ∙ same,
      one_opens c.args.self.now c.args.now (fields c.args.cookies.now) c.in_ok-found.found.items c.in_ok-found.ensures.found c.in_ok-opened.field-0 c.in_ok-opened.ensures.one
          place c.of.result.session (c.in-Some.is ∙ (same_visit found c.of.result.session place).0 same),
    )

pub returns-in_ok-start-in-None-clause-answers : goal.returns-in_ok-start-in-None-clause-answers
returns-in_ok-start-in-None-clause-answers g c kept place s =
    let set = g.R.Revocations.revoked_until c.args.revocations.now in
    let right = first_opens c.args.self.now c.args.now (fields c.args.cookies.now) c.in_ok-found.found.items c.in_ok-found.ensures.found set c.in_ok-opened.field-0
    (c.in_ok-opened.ensures.first kept) place s in
    let lacks : c.new.result.place ≡ None = ap (λ (v : VisitState). v.place) c.new.ensures in (
      λ e. absurd (none-some place (sym lacks ∙ ap (λ (v : VisitState). v.place) e)),
      λ opens. absurd (none-some (opened s place) (sym c.in-None.is ∙ right.1 opens)),
    )

pub returns-in_ok-start-in-None-clause-revoked : goal.returns-in_ok-start-in-None-clause-revoked
returns-in_ok-start-in-None-clause-revoked g c = (λ shows. (lacks, λ none. full shows none), λ both. by c.is_empty-shows_one.result refl both.1)
  where
    all : List Opened
    all = c.in_ok-found.found.items

    lacks : c.new.result.place ≡ None
    lacks = ap (λ (v : VisitState). v.place) c.new.ensures

    full : c.new.result.shows_revoked ≡ true → ¬ (OpensNone c.args.self.now (fields c.args.cookies.now) c.args.now)
    full shows none =
        let test = is_some all c.in_ok-found.found.len c.is_empty-shows_one.result c.in_ok-found.found.ok.0 c.is_empty-shows_one.ensures
        (none_found c.args.self.now c.args.now (fields c.args.cookies.now) all c.in_ok-found.ensures.found none) in
        search rules

    by : (b : Bool) → c.is_empty-shows_one.result ≡ b → ¬ (OpensNone c.args.self.now (fields c.args.cookies.now) c.args.now) → c.new.result.shows_revoked ≡ true
    by true test some =
        absurd (some (empty_none c.args.self.now c.args.now (fields c.args.cookies.now) all c.in_ok-found.ensures.found (is_none all c.in_ok-found.found.len c.is_empty-shows_one.result c.in_ok-found.found.ok.0 c.is_empty-shows_one.ensures test)))
    by false test some = search rules
