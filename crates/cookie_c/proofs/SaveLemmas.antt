-- How a session is saved for C, by what the library's call does.
use Rattle.std.proofs.Common.{◌≡◌, ◌↔◌, ℕ, ◌<◌, ◌≤◌, ◌⊎◌, inl, inr, true, List, length, Some, Result, Err, arith, refl, ap, subst, sym, ◌∙◌}
use Rattle.jiff.specs.Types.{DateTime}
use Rattle.cookie.specs.Record.{Record}
use Rattle.cookie.specs.Sealing.{IsNonce}
use Rattle.cookie_session.specs.Seconds.{second_of}
use Rattle.cookie_session.specs.Session.{SessionState, seen_at}
use Rattle.cookie_session.specs.Sessions.{CanSave, CanSealSession, IsStored, bare_cookie, meets_prefix, saved_cookie}
use Rattle.cookie_session.specs.Size.{browser_length, most_bytes}
use Rattle.cookie_session.specs.declared.session_error.SessionError.{SessionError}
use Rattle.cookie_session.specs.declared.session_error.SessionError.TheVariants as failure
use Rattle.cookie_session.specs.declared.sessions.Sessions.{Sessions}
use Rattle.cookie_session.specs.Visit.{Replaces, VisitState, saved_visit}
use Rattle.cookie_session.specs.declared.pass.Pass.{Pass}
use Rattle.cookie_c.specs.Answers.{IsGiven, IsGivenInMemory, IsRefused, IsTold}
use Rattle.cookie_c.specs.Codes.{code_of}
use Rattle.cookie_c.specs.Handles.{session_in}
use Rattle.cookie_c.specs.OpenedSessions.{session_of}
use Rattle.cookie_c.specs.SavedSessions.{GivesSaved, GivesSavedInMemory, Saves, SavesHeld, SavesVisit}
use Rattle.cookie_c.specs.declared.answer.Answer.{Answer}
use Rattle.cookie_c.specs.declared.handle.content.Content.{Content}
use Rattle.cookie_c.specs.declared.handle.content.Content.TheVariants as content
use Rattle.cookie_c.specs.declared.sessions.Session.{Session}
use Rattle.cookie_c.specs.declared.sessions.lasting.Lasting.{Lasting}
use Rattle.cookie_c.specs.declared.status.Status.{Status}
use Rattle.cookie_c.specs.declared.status.Status.TheVariants as status

module _ (site : Sessions) (nonce : List ℕ) (time : DateTime) (session : SessionState) where
  -- when the library's call refuses a session, under a nonce that is known
  record Refuses {T : Type 0} (result : Result T SessionError) : Type 0 where
    prefix : (¬ (meets_prefix site.cookie.now.fields ≡ true)) ↔ (result ≡ Err failure.Prefix)
    over : meets_prefix site.cookie.now.fields ≡ true → (¬ CanSave site time session) ↔ (result ≡ Err failure.Over)
    too_long : CanSave site time session → ¬ (result ≡ Err failure.Prefix) → ¬ (result ≡ Err failure.OutOfMemory)
        → (¬ CanSealSession (bare_cookie site time session)) ↔ (result ≡ Err failure.TooLong)
    too_large : (size : ℕ) → result ≡ Err (failure.TooLarge size)
        → (most_bytes < size) × (size ≡ browser_length (saved_cookie site nonce time session))
    drawn : ¬ (result ≡ Err failure.Generator)

  module _ (Fails : SessionError → Type 0) (Gives : Record → Type 0) where
    -- memory ran out
    saves_memory : Fails failure.OutOfMemory → Saves site nonce time session Fails Gives
    saves_memory fails = record {
      prefix = λ _. inr fails;
      over = λ _ _. inr fails;
      too_long = λ _ _ _. inr fails;
      too_large = λ _ _ _ _. inr fails;
      saved = λ _ _ _ _. inr fails;
    }

    -- the cookie is made under this nonce, and its text is given or memory ran out
    pub saves_given : (cookie : Record) (other : List ℕ) → other ≡ nonce → cookie ≡ saved_cookie site other time session
        → meets_prefix site.cookie.now.fields ≡ true → CanSave site time session → CanSealSession (bare_cookie site time session)
        → browser_length cookie ≤ most_bytes → IsStored site (Some cookie) (seen_at (second_of time) session)
        → Gives cookie ⊎ Fails failure.OutOfMemory → Saves site nonce time session Fails Gives
    saves_given cookie other drawn is meets can seals fits stored (inr fails) = saves_memory fails
    saves_given cookie other drawn is meets can seals fits stored (inl gives) =
        let same : cookie ≡ saved_cookie site nonce time session = is ∙ ap (λ n. saved_cookie site n time session) drawn in
        let within : browser_length (saved_cookie site nonce time session) ≤ most_bytes = subst (λ r. browser_length r ≤ most_bytes) same fits in
        record {
          prefix = λ no. absurd (no meets);
          over = λ _ no. absurd (no can);
          too_long = λ _ _ no. absurd (no seals);
          too_large = λ _ _ _ large. absurd (omega (arith, within, large));
          saved = λ _ _ _ _. inl (subst (λ r. Gives r × IsStored site (Some r) (seen_at (second_of time) session)) same (gives, stored));
        }

    -- the call refused it
    saves_refused : {T : Type 0} (why : SessionError) → Refuses {T = T} (Err why) → Fails why
        → Saves site nonce time session Fails Gives
    saves_refused failure.OutOfMemory is fails = saves_memory fails
    saves_refused failure.Prefix is fails = record {
      prefix = λ no. inl fails;
      over = λ meets no. absurd (is.prefix.1 refl meets);
      too_long = λ meets can no. absurd (is.prefix.1 refl meets);
      too_large = λ meets can seals large. absurd (is.prefix.1 refl meets);
      saved = λ meets can seals fits. absurd (is.prefix.1 refl meets);
    }
    saves_refused failure.Over is fails = record {
      prefix = λ no. absurd (let clash = is.prefix.0 no in cc);
      over = λ meets no. inl fails;
      too_long = λ meets can no. absurd ((is.over meets).1 refl can);
      too_large = λ meets can seals large. absurd ((is.over meets).1 refl can);
      saved = λ meets can seals fits. absurd ((is.over meets).1 refl can);
    }
    saves_refused failure.TooLong is fails = record {
      prefix = λ no. absurd (let clash = is.prefix.0 no in cc);
      over = λ meets no. absurd (let clash = (is.over meets).0 no in cc);
      too_long = λ meets can no. inl fails;
      too_large = λ meets can seals large. absurd ((is.too_long can (λ e. cc) (λ e. cc)).1 refl seals);
      saved = λ meets can seals fits. absurd ((is.too_long can (λ e. cc) (λ e. cc)).1 refl seals);
    }
    saves_refused (failure.TooLarge size) is fails = record {
      prefix = λ no. absurd (let clash = is.prefix.0 no in cc);
      over = λ meets no. absurd (let clash = (is.over meets).0 no in cc);
      too_long = λ meets can no. absurd (let clash = (is.too_long can (λ e. cc) (λ e. cc)).0 no in cc);
      too_large = λ meets can seals large. inl (subst (λ n. Fails (failure.TooLarge n)) (is.too_large size refl).1 fails);
      saved = λ meets can seals fits. absurd (let both = is.too_large size refl in omega (arith, both.0, both.1, fits));
    }
    saves_refused failure.Generator is fails = absurd (is.drawn refl)

    -- its clauses, of a nonce that was drawn
    pub saves_failed : {T : Type 0} (result : Result T SessionError) (why : SessionError) (Drawn : List ℕ → Type 0)
        → ((other : List ℕ) → IsNonce other → Drawn other → other ≡ nonce) → result ≡ Err why
        → (¬ (meets_prefix site.cookie.now.fields ≡ true)) ↔ (result ≡ Err failure.Prefix)
        → (meets_prefix site.cookie.now.fields ≡ true → (¬ CanSave site time session) ↔ (result ≡ Err failure.Over))
        → (CanSave site time session → ¬ (result ≡ Err failure.Prefix) → ¬ (result ≡ Err failure.OutOfMemory)
        → (¬ CanSealSession (bare_cookie site time session)) ↔ (result ≡ Err failure.TooLong))
        → ((size : ℕ) → result ≡ Err (failure.TooLarge size) → (most_bytes < size) × (other : List ℕ) × IsNonce other × Drawn other
        × (size ≡ browser_length (saved_cookie site other time session)))
        → ¬ (result ≡ Err failure.Generator) → Fails why → Saves site nonce time session Fails Gives
    saves_failed {T} result why Drawn only is prefix over too_long too_large drawn fails =
        saves_refused {T = T} why (subst (λ (r : Result T SessionError). Refuses {T = T} r) is (record {
          prefix = prefix;
          over = over;
          too_long = too_long;
          too_large = λ size e.
              let large = too_large size e in
              (large.0, large.4 ∙ ap (λ n. browser_length (saved_cookie site n time session)) (only large.1 large.2 large.3));
          drawn = drawn;
        })) fails

-- the status that an answer has
status_told : (what : Status) (number : ℕ) (answer : Answer) → IsTold what number answer → answer.status ≡ code_of what
status_told what number answer told = ap (λ (a : Answer). a.status) told

module _ (text : List ℕ) (answer : Answer) (had made : VisitState) (old new : List ℕ) where
  -- the visit replaces what the user agent has, so it is refused
  pub gives_replaced : (pass : Pass) → Replaces had pass → IsRefused status.Replaces answer old new → made ≡ had
      → GivesSaved text answer had made old new
  gives_replaced pass is refused same = record {
    replaces = λ _ _. (refused, same);
    given = λ none. absurd (none pass is);
    marked = λ none _. absurd (none pass is);
    kept = λ _. same;
  }

  -- it replaces nothing, so its text is given
  gives_free : ((pass : Pass) → ¬ Replaces had pass) → IsGiven text answer old new
      → (length text ≤ length old → made ≡ saved_visit had) → (length old < length text → made ≡ had)
      → GivesSaved text answer had made old new
  gives_free none given marked kept = record {
    replaces = λ pass is. absurd (none pass is);
    given = λ _. given;
    marked = λ _ fits. marked fits;
    kept = kept;
  }

module _ (text : List ℕ) (answer : Answer) (had : VisitState) (old new : List ℕ) (none : (pass : Pass) → ¬ Replaces had pass) where
  -- the text was written, and the visit is marked
  pub gives_done : IsGivenInMemory text answer old new → answer.status ≡ 0
      → GivesSavedInMemory text answer had (saved_visit had) old new
  gives_done (inl given) done =
      inl (gives_free text answer had (saved_visit had) old new none given (λ _. refl)
      (λ short. absurd (let e : 0 ≡ 1 = sym done ∙ status_told status.BufferTooShort (length text) answer (given.told short) in cc)))
  gives_done (inr refused) done =
      absurd (let e : 0 ≡ 2 = sym done ∙ status_told status.OutOfMemory 0 answer refused.told in cc)

  -- it wasn't, and the visit is as it was
  pub gives_undone : IsGivenInMemory text answer old new → ¬ (answer.status ≡ 0)
      → GivesSavedInMemory text answer had had old new
  gives_undone (inl given) undone =
      inl (gives_free text answer had had old new none given
      (λ fits. absurd (undone (status_told status.Done (length text) answer (given.fits fits)))) (λ _. refl))
  gives_undone (inr refused) undone = inr (refused, refl)

-- what a call that saves makes of a handle's session: `held` is what the handle had, and `seen` what the call saw of it
pub saves_held : (lasting : Lasting) (site : Sessions) (nonce : List ℕ) (time : DateTime) (answer : Answer) (out left : List ℕ) (old new : Session) (held seen : Content) (had made : VisitState)
    → Some held ≡ old.handle.held.content → seen ≡ held → seen ≡ content.Session had → new.handle.held.content ≡ Some (content.Session made)
    → SavesVisit lasting site nonce time answer had made out left → SavesHeld lasting site nonce time answer (session_of old) (session_of new) out left
saves_held lasting site nonce time answer out left old new held seen had made some same is put saves =
    subst (λ h. SavesHeld lasting site nonce time answer h (session_of new) out left)
    (sym (ap (λ (c : Content). session_in (Some c)) is) ∙ ap (λ (c : Content). session_in (Some c)) same ∙ ap session_in some)
    (made, ap session_in put, saves)
