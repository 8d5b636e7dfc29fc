-- What a jar shows once a cookie was added under the newest key.
use Rattle.std.proofs.Common.{◌≡◌, ◌↔◌, ℕ, ◌<◌, Bool, true, false, List, length, None, Some, IfSome, Result, Err, refl, sym, ap, subst, ◌∙◌}
use Rattle.cookie.specs.Jar.{Add, JarState, after, view}
use Rattle.cookie.specs.Keys.{encryption_half}
use Rattle.cookie.specs.Record.{Record}
use Rattle.cookie.specs.Purposes.{IsSealedFor}
use Rattle.cookie.specs.Sealing.{IsSealingOf}
use Rattle.cookie.proofs.AnswerLemmas.{view-stored}
use Rattle.cookie_session.specs.KeyRing.{OpensNewest, newest}
use Rattle.cookie_session.specs.Session.{IsSession, SessionState, session_text}
use Rattle.cookie_session.specs.SessionError.{IsBareRefusal}
use Rattle.cookie_session.specs.Sessions.{IsStored, session_purpose}
use Rattle.cookie_session.specs.declared.session_error.SessionError.{SessionError}
use Rattle.cookie_session.specs.declared.session_error.SessionError.TheVariants as refusal
use Rattle.cookie_session.specs.declared.sessions.Sessions.{Sessions}
use Rattle.cookie_session.proofs.KeyRingLemmas.{opened_newest}

-- a cookie with a session that was sealed by the newest key holds it
pub sealed_stored : (sealed : Record) (site : Sessions) (s : SessionState) → IsSession s → 0 < length site.keys.now
    → IsSealedFor (encryption_half (newest site.keys.now)) session_purpose sealed.name sealed.value (session_text s) → IsStored site (Some sealed) s
sealed_stored sealed site s is some stands = λ cookie same later lives.
    record { session = is; sealed = opened_newest (Some session_purpose) site.keys.now some sealed cookie (session_text s) same stands; lives = lives }

module _ (sealed : Record) (name : List ℕ) (named : sealed.name ≡ name) (old new : JarState) (added : new ≡ after (Add sealed) old) where
  -- it shows what was added
  shown : view new name ≡ Some sealed
  shown = ap (λ (j : JarState). view j name) added ∙ ap (view (after (Add sealed) old)) (sym named) ∙ view-stored old sealed

  pub shown_is : (Is : Record → Type 0) → Is sealed → IfSome (view new name) Is
  shown_is Is is = subst (λ o. IfSome o Is) (sym shown) is

  -- and that holds the session
  pub shown_stored : (site : Sessions) (s : SessionState) → IsStored site (Some sealed) s → IsStored site (view new name) s
  shown_stored site s stored = subst (λ o. IsStored site o s) (sym shown) stored

  -- and that the newest key opens
  pub shown_opens : (ring : List (List ℕ)) (value : List ℕ) → 0 < length ring → IsSealingOf (encryption_half (newest ring)) sealed value
      → OpensNewest ring (view new name) value
  shown_opens ring value some stands =
      subst (λ o. OpensNewest ring o value) (sym shown) (λ cookie same. opened_newest None ring some sealed cookie value same stands)

-- Where the cookie is refused before it is sealed, though its session lives and memory and prefix are right, nothing else is told.
pub refused_bare : {T U : Type 0} (meets : Bool) (Lives Seals : Type 0) (why : SessionError) (result : Result U SessionError) → result ≡ Err why → IsBareRefusal why
    → ((¬ (meets ≡ true)) ↔ (◌≡◌ {A = Result T SessionError} (Err why) (Err refusal.Prefix)))
    → (meets ≡ true → (¬ Lives) ↔ (◌≡◌ {A = Result T SessionError} (Err why) (Err refusal.Over)))
    → Lives → ¬ (result ≡ Err refusal.Prefix) → ¬ (result ≡ Err refusal.OutOfMemory) → (¬ Seals) ↔ (result ≡ Err refusal.TooLong)
refused_bare meets Lives Seals refusal.OutOfMemory result is bare prefix over lives other memory = absurd (memory is)
refused_bare meets Lives Seals refusal.Prefix result is bare prefix over lives other memory = absurd (other is)
refused_bare meets Lives Seals refusal.Over result is bare prefix over lives other memory = by meets refl
  where
    by : (b : Bool) → meets ≡ b → (¬ Seals) ↔ (result ≡ Err refusal.TooLong)
    by true met = absurd ((over met).1 refl lives)
    by false unmet =
        let clash = prefix.0 (λ met. let both : true ≡ false = sym met ∙ unmet in cc) in
        absurd (cc)
refused_bare meets Lives Seals (refusal.TooLarge size) result is bare prefix over lives other memory = absurd bare
refused_bare meets Lives Seals refusal.TooLong result is bare prefix over lives other memory = absurd bare
refused_bare meets Lives Seals refusal.Generator result is bare prefix over lives other memory = absurd bare
