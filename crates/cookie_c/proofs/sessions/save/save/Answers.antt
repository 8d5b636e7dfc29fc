use Rattle.std.proofs.Common.{◌≡◌, inl, inr, ℕ, List, length, refl, subst, sym, ◌∙◌}
use Rattle.cookie.specs.Record.{Record}
use Rattle.cookie_session.specs.Seconds.{second_of}
use Rattle.cookie_session.specs.Session.{SessionState}
use Rattle.cookie_session.specs.declared.session_error.SessionError.{SessionError}
use Rattle.cookie_c.specs.Answers.{IsTold}
use Rattle.cookie_c.specs.Lastings.{IsKept}
use Rattle.cookie_c.specs.SavedSessions.{GivesKept, IsUnsaved, Saves, unsaved_number}
use Rattle.cookie_c.proofs.SaveLemmas.{saves_failed, saves_given}
use Rattle.cookie_c.proofs.sessions.save.save.Goals as goal

pub returns-in-Ok : goal.returns-in-Ok
returns-in-Ok c =
    let is = c.in-Ok.ensures in
    let (drawn, long, filled, made) = is.ok in
    let had = c.args.visit.now in
    let fails : SessionError → Type 0 = λ why. IsUnsaved c.give.result c.args.out.now c.give.new.out why × (c.give.new.visit ≡ had) in
    let gives : Record → Type 0 = λ cookie. GivesKept c.args.lasting (second_of c.args.time) cookie c.give.result had c.give.new.visit c.args.out.now c.give.new.out in
    let kept = subst (λ now. IsKept c.args.lasting now c.in-Ok.cookie.fields c.kept-cookie.result.fields) c.second_of.ensures.value c.kept-cookie.ensures in
    subst (λ (s : SessionState). Saves c.args.sessions.now c.args.nonce.bytes.now c.args.time s fails gives) c.session.ensures (
    saves_given c.args.sessions.now c.args.nonce.bytes.now c.args.time c.session.result.now fails gives
    c.in-Ok.cookie.fields drawn (filled.1 (long.long ∙ sym c.requires)) made is.meets is.lives is.within is.fits is.opens
    (elim c.give.ensures [ inl given ↦ inl (c.kept-cookie.result.fields, kept, given) | inr refused ↦ inr ((refused.0.told, refused.0.kept), refused.1) ]))

pub returns-in-Err : goal.returns-in-Err
returns-in-Err c =
    let is = c.saved_cookie.ensures in
    let nonce = c.args.nonce.bytes.now in
    let had = c.args.visit.now in
    let fails : SessionError → Type 0 = λ why. IsUnsaved c.of.result c.args.out.now c.args.out.now why × (had ≡ had) in
    let gives : Record → Type 0 = λ cookie. GivesKept c.args.lasting (second_of c.args.time) cookie c.of.result had had c.args.out.now c.args.out.now in
    subst (λ (s : SessionState). Saves c.args.sessions.now nonce c.args.time s fails gives) c.session.ensures (
    saves_failed c.args.sessions.now nonce c.args.time c.session.result.now fails gives
    c.saved_cookie.result c.in-Err.error
    (λ (drawn : List ℕ). (c.saved_cookie.new.rng ≡ c.args.nonce) × (length drawn ≡ length nonce → drawn ≡ nonce))
    (λ other long drawn. drawn.1 (long.long ∙ sym c.requires))
    c.in-Err.is is.prefix is.over is.too_long is.too_large (λ e. elim (is.failed e) [ ]) (
      (
        subst (λ s. IsTold s (unsaved_number c.in-Err.error) c.of.result) c.unsaved_status.ensures
            (subst (λ n. IsTold c.unsaved_status.result n c.of.result) c.unsaved_number.ensures c.of.ensures),
        refl,
      ),
      refl,
    ))
