use Rattle.std.proofs.Common.{◌≡◌, Err, ap, subst, ◌∙◌}
use Rattle.std.proofs.lemmas.Result.{err_from_is_err_and}
use Rattle.cookie.specs.Keys.{encryption_half}
use Rattle.cookie.specs.Record.{Record}
use Rattle.cookie.specs.Purposes.{IsSealedFor}
use Rattle.cookie_session.specs.KeyRing.{newest}
use Rattle.cookie_session.specs.Seconds.{second_of}
use Rattle.cookie_session.specs.Session.{SessionState, seen_at, session_text}
use Rattle.cookie_session.specs.Sessions.{CanSave, CanSealSession, bare_cookie, meets_prefix, session_purpose}
use Rattle.cookie_session.proofs.SaveLemmas.{refused_bare, sealed_stored}
use Rattle.cookie_session.proofs.sessions.Sessions.saved_cookie.Goals as goal

pub returns-clause-opens : goal.returns-clause-opens
returns-clause-opens g c =
    let (nonce, is_nonce, drawn, is) = c.in_ok-sealed.ensures.outcome.ok in
    let site = c.args.self.now in
    let saved : SessionState = seen_at (second_of c.args.now) c.args.session.now in
    let sealed = c.in_ok-sealed.sealed.fields in
    let cookie = c.in_ok-cookie.cookie.fields in
    let value : cookie.value ≡ session_text saved = ap (λ (r : Record). r.value) c.in_ok-cookie.ensures.ok in
    sealed_stored sealed site saved c.in_ok-cookie.ensures.session c.in_ok-sealed.ensures.some
    (subst (IsSealedFor (encryption_half (newest site.keys.now)) session_purpose sealed.name sealed.value) value is.stands)

pub returns-in_err-cookie-clause-too_long : goal.returns-in_err-cookie-clause-too_long
returns-in_err-cookie-clause-too_long g c =
    let site = c.args.self.now in
    let (why, is, same) = err_from_is_err_and c.from_residual.result c.from_residual.ensures.1 in
    refused_bare (meets_prefix site.cookie.now.fields) (CanSave site c.args.now c.args.session.now) (CanSealSession (bare_cookie site c.args.now c.args.session.now))
    c.in_err-cookie.field-0.0 c.from_residual.result (is ∙ ap Err same) c.in_err-cookie.ensures.others c.in_err-cookie.ensures.prefix c.in_err-cookie.ensures.over
