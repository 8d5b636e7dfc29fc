use Rattle.std.proofs.Common.{◌≡◌, true, false, sym, subst, ◌∙◌, string_bytes}
use Rattle.std.proofs.lemmas.Slice.Eq.{bytes_eq-Decides}
use Rattle.cookie_session.specs.Session.{IsSessionText, SessionState, seen_at}
use Rattle.cookie_session.proofs.ReadLemmas.{read_right, read_wrong}
use Rattle.cookie_session.proofs.session_text.read_session.Goals as goal

pub returns-then-eq : goal.returns-then-eq
returns-then-eq c =
    let session : SessionState = c.in_ok-session.session in
    let wrote = subst (λ n. IsSessionText (string_bytes c.in_ok-again.again) (seen_at n session)) c.seen.ensures c.in_ok-again.ensures in
    read_right c.args.text.now (string_bytes c.in_ok-again.again) session wrote c.in_ok-session.ensures
    (sym c.as_str.ensures.value ∙ (bytes_eq-Decides c.as_str.result.now c.args.text.now).0 (sym c.if-eq.ensures))

pub returns-else-eq : goal.returns-else-eq
returns-else-eq c =
    let session : SessionState = c.in_ok-session.session in
    let wrote = subst (λ n. IsSessionText (string_bytes c.in_ok-again.again) (seen_at n session)) c.seen.ensures c.in_ok-again.ensures in
    read_wrong c.args.text.now (string_bytes c.in_ok-again.again) session wrote c.in_ok-session.ensures (λ same.
    let clash : true ≡ false = sym ((bytes_eq-Decides c.as_str.result.now c.args.text.now).1 (c.as_str.ensures.value ∙ same)) ∙ sym c.if-eq.ensures in
    cc)
