-- When a session is open.
use Rattle.std.proofs.Common.{◌≡◌, ◌↔◌, ℕ, Bool, true, List, Option, Some, refl, ap, subst}
use Rattle.std.proofs.lemmas.Option.{same_Some}
use Rattle.std.specs.Prelude.{IsTrue}
use Rattle.jiff.specs.Types.{DateTime}
use Rattle.cookie.specs.Record.{Record}
use Rattle.cookie_session.specs.KeyRing.{OpensAt}
use Rattle.cookie_session.specs.Session.{IsSessionText, SessionState, session_text}
use Rattle.cookie_session.specs.Sessions.{IsOpen, LivesAt, session_purpose}
use Rattle.cookie_session.specs.declared.opened.Opened.{Opened}
use Rattle.cookie_session.specs.declared.sessions.Sessions.{Sessions}
use Rattle.cookie_session.proofs.KeyRingLemmas.{FindsIn}

-- a session that a key opened, as it is answered
abbrev pub opened : SessionState → ℕ → Opened
opened s place = record { session = s; place = place }

-- what the keys of a site find in a cookie
abbrev pub FindsSealed : Sessions → Record → Option (ℕ × List ℕ) → Type 0
FindsSealed site cookie found = FindsIn (Some session_purpose) site.keys.now cookie found

module _ (site : Sessions) (cookie : Record) (now : DateTime) where
  module _ (there : ℕ) (text : List ℕ) (finds : FindsSealed site cookie (Some (there, text))) where
    -- what was opened is the session's text
    told : (place : ℕ) (s : SessionState) → IsOpen site (Some cookie) now place s → (there ≡ place) × IsSessionText text s
    told place s is =
        let given : (there, text) ≡ (place, session_text s) = same_Some (there, text) (place, session_text s) ((finds place (session_text s)).1 is.sealed) in
        (ap (λ (t : ℕ × List ℕ). t.0) given, record { session = is.session; written = ap (λ (t : ℕ × List ℕ). t.1) given })

    module _ (session : SessionState) (reads : (s : SessionState) → (Some session ≡ Some s) ↔ IsSessionText text s)
        (alive : Bool) (lives : IsTrue alive ↔ LivesAt site now session) where
      -- and where it does
      pub open_right : alive ≡ true → (place : ℕ) (s : SessionState) → (Some (opened session there) ≡ Some (opened s place)) ↔ IsOpen site (Some cookie) now place s
      open_right living place s = (
        λ e.
            let given : opened session there ≡ opened s place = same_Some (opened session there) (opened s place) e in
            let same : session ≡ s = ap (λ (o : Opened). o.session) given in
            let at : there ≡ place = ap (λ (o : Opened). o.place) given in
            let read = (reads s).0 (ap Some same) in
            record {
              session = read.session;
              sealed = subst (λ (t : List ℕ). OpensAt (Some session_purpose) site.keys.now place cookie t) read.written
                  (subst (λ n. OpensAt (Some session_purpose) site.keys.now n cookie text) at ((finds there text).0 refl));
              lives = subst (LivesAt site now) same (lives.0 living);
            },
        λ is.
            let parts = told place s is in
            let same : session ≡ s = same_Some session s ((reads s).1 parts.1) in
            λ i. Some (opened (same i) (parts.0 i)),
      )
