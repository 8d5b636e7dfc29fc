use Rattle.std.proofs.Common.{rules, ◌≡◌, ◌≤◌, Err, Some, ap, sym, subst, ◌∙◌}
use Rattle.std.proofs.lemmas.Result.{err_from_is_err_and}
use Rattle.cookie.specs.Record.{IsCookie, Record}
use Rattle.cookie_session.specs.Seconds.{second_of}
use Rattle.cookie_session.specs.Session.{seen_at}
use Rattle.cookie_session.specs.Sessions.{IsStored}
use Rattle.cookie_session.specs.Size.{browser_length, most_bytes}
use Rattle.cookie_session.specs.Visit.{VisitState}
use Rattle.cookie_session.specs.declared.visit_error.VisitError.TheVariants as failure
use Rattle.cookie_session.proofs.SaveLemmas.{shown_is, shown_stored}
use Rattle.cookie_session.proofs.sessions.Sessions.save_if_needed.Goals as goal

pub returns-in_err-give-clause-unsure : goal.returns-in_err-give-clause-unsure
returns-in_err-give-clause-unsure g c error is =
    let p = err_from_is_err_and c.from_residual-in_err-give.result c.from_residual-in_err-give.ensures.1 in
    let was : c.give.result ≡ Err p.0 = c.in_err-give.was ∙ search rules in
    c.give.ensures.unsure error (let same : Err p.0 ≡ Err (failure.Revocations error) = sym p.1 ∙ is in cc)

pub returns-clause-fits : goal.returns-clause-fits
returns-clause-fits g c must =
    let (nonce, is_nonce, drawn, is) = c.in_ok-cookie.ensures.ok in
    let name = c.args.self.now.cookie.now.fields.name in
    shown_is c.in_ok-cookie.cookie.fields name (ap (λ (r : Record). r.name) is) c.args.jar.now c.give.new.jar c.in_ok-give.ensures.ok.0
    (λ cookie. browser_length cookie ≤ most_bytes) c.in_ok-cookie.ensures.fits

pub returns-clause-cookie : goal.returns-clause-cookie
returns-clause-cookie g c must =
    let (nonce, is_nonce, drawn, is) = c.in_ok-cookie.ensures.ok in
    let name = c.args.self.now.cookie.now.fields.name in
    shown_is c.in_ok-cookie.cookie.fields name (ap (λ (r : Record). r.name) is) c.args.jar.now c.give.new.jar c.in_ok-give.ensures.ok.0 IsCookie c.in_ok-cookie.ensures.cookie

pub returns-clause-opens : goal.returns-clause-opens
returns-clause-opens g c must =
    let (nonce, is_nonce, drawn, is) = c.in_ok-cookie.ensures.ok in
    let site = c.args.self.now in
    shown_stored c.in_ok-cookie.cookie.fields site.cookie.now.fields.name (ap (λ (r : Record). r.name) is) c.args.jar.now c.give.new.jar c.in_ok-give.ensures.ok.0
    site (seen_at (second_of c.args.now) c.args.visit.now.session)
    (subst (λ (v : VisitState). IsStored site (Some c.in_ok-cookie.cookie.fields) (seen_at (second_of c.args.now) v.session)) c.visit.view_is c.in_ok-cookie.ensures.opens)
