use Rattle.std.proofs.Common.{List, map}
use Rattle.std.proofs.lemmas.Result.{IfOk-weaker}
use Rattle.cookie.specs.Record.{CookieView, Record}
use Rattle.cookie_session.specs.Revocations.{IsRevoked}
use Rattle.cookie_session.proofs.FirstLemmas.{holds_first, none_found, once_first}
use Rattle.cookie_session.proofs.UnrevokedLemmas.{always, first_opens, one_opens}
use Rattle.cookie_session.proofs.sessions.Sessions.open_unrevoked.Goals as goal

abbrev fields : List CookieView → List Record
fields cookies = map (λ c. c.fields) cookies

pub returns-clause-answers : goal.returns-clause-answers
returns-clause-answers g c kept =
    let set = g.R.Revocations.revoked_until c.args.revocations.now in
    IfOk-weaker c.first_unrevoked.result _ _
    (λ answer left. first_opens c.args.self.now c.args.now (fields c.args.cookies.now) c.in_ok-found.found.items c.in_ok-found.ensures.found set answer left)
    (c.first_unrevoked.ensures.first kept)

pub returns-clause-sealed : goal.returns-clause-sealed
returns-clause-sealed g c =
    IfOk-weaker c.first_unrevoked.result _ _
    (λ answer one. one_opens c.args.self.now c.args.now (fields c.args.cookies.now) c.in_ok-found.found.items c.in_ok-found.ensures.found answer one)
    c.first_unrevoked.ensures.one

pub returns-clause-once : goal.returns-clause-once
returns-clause-once g c kept =
    let gone = IsRevoked (g.R.Revocations.revoked_until c.args.revocations.now) in
    always c.first_unrevoked.result
    (λ place s first. once_first c.args.self.now c.args.now gone (fields c.args.cookies.now) c.in_ok-found.ensures.once place s first)

pub returns-clause-first : goal.returns-clause-first
returns-clause-first g c =
    always c.first_unrevoked.result (holds_first c.args.self.now c.args.now (fields c.args.cookies.now) c.in_ok-found.ensures.once)

pub returns-clause-unasked : goal.returns-clause-unasked
returns-clause-unasked g c none =
    c.first_unrevoked.ensures.unasked (none_found c.args.self.now c.args.now (fields c.args.cookies.now) c.in_ok-found.found.items c.in_ok-found.ensures.found none)
