use Rattle.std.proofs.Common.{rules, ◌≡◌, ◌≤◌, Err, ap, sym, ◌∙◌}
use Rattle.std.proofs.lemmas.Result.{err_from_is_err_and}
use Rattle.cookie.specs.Record.{IsCookie, Record}
use Rattle.cookie_session.specs.Seconds.{second_of}
use Rattle.cookie_session.specs.Session.{seen_at}
use Rattle.cookie_session.specs.Size.{browser_length, most_bytes}
use Rattle.cookie_session.specs.declared.session_error.SessionError.{SessionError}
use Rattle.cookie_session.specs.declared.session_error.SessionError.TheVariants as refusal
use Rattle.cookie_session.proofs.SaveLemmas.{shown_is, shown_stored}
use Rattle.cookie_session.proofs.sessions.Sessions.save.Goals as goal

pub returns-clause-fits : goal.returns-clause-fits
returns-clause-fits g c =
    let (nonce, is_nonce, drawn, is) = c.in_ok-cookie.ensures.ok in
    let name = c.args.self.now.cookie.now.fields.name in
    shown_is c.in_ok-cookie.cookie.fields name (ap (λ (r : Record). r.name) is) c.args.jar.now c.add.new.self c.in_ok-add.ensures.gives (λ cookie. browser_length cookie ≤ most_bytes) c.in_ok-cookie.ensures.fits

pub returns-clause-cookie : goal.returns-clause-cookie
returns-clause-cookie g c =
    let (nonce, is_nonce, drawn, is) = c.in_ok-cookie.ensures.ok in
    let name = c.args.self.now.cookie.now.fields.name in
    shown_is c.in_ok-cookie.cookie.fields name (ap (λ (r : Record). r.name) is) c.args.jar.now c.add.new.self c.in_ok-add.ensures.gives IsCookie c.in_ok-cookie.ensures.cookie

pub returns-clause-opens : goal.returns-clause-opens
returns-clause-opens g c =
    let (nonce, is_nonce, drawn, is) = c.in_ok-cookie.ensures.ok in
    let site = c.args.self.now in
    shown_stored c.in_ok-cookie.cookie.fields site.cookie.now.fields.name (ap (λ (r : Record). r.name) is) c.args.jar.now c.add.new.self c.in_ok-add.ensures.gives
    site (seen_at (second_of c.args.now) c.args.session.now) c.in_ok-cookie.ensures.opens

pub returns-in_err-cookie-clause-too_long : goal.returns-in_err-cookie-clause-too_long
returns-in_err-cookie-clause-too_long g c can some memory =
    let p = err_from_is_err_and c.from_residual.result c.from_residual.ensures.1 in
    let was : c.saved_cookie.result ≡ Err p.0 = c.in_err-cookie.was ∙ search rules in
    let there : (why : SessionError) → c.saved_cookie.result ≡ Err why → c.from_residual.result ≡ Err why = λ why refused. let same : Err p.0 ≡ Err why = sym was ∙ refused in cc in
    let back : (why : SessionError) → c.from_residual.result ≡ Err why → c.saved_cookie.result ≡ Err why = λ why refused. let same : Err p.0 ≡ Err why = sym p.1 ∙ refused in cc in
    let exact = c.saved_cookie.ensures.too_long can (λ refused. some (there refusal.Prefix refused)) (λ refused. memory (there refusal.OutOfMemory refused)) in
    (λ unfit. there refusal.TooLong (exact.0 unfit), λ refused. exact.1 (back refusal.TooLong refused))
