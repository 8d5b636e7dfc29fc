-- When a client comes back with a session, and what came of it.
use Rattle.std.specs.Prelude.{◌≡◌, ◌≢◌, ◌↔◌, ◌≤◌, ℕ, Bool, true, List, [], All, Option, Some, None}
use Rattle.std.specs.FinMap.{empty, get}
use Rattle.std.specs.List.{AllZip}
use Rattle.jiff.specs.Types.{DateTime}
use Rattle.cookie.specs.DeltaTexts.{AreDeltaTexts}
use Rattle.cookie.specs.History.{after_all}
use Rattle.cookie.specs.Jar.{Add, JarState, after, view}
use Rattle.cookie.specs.Normal.{IsUncut}
use Rattle.cookie.specs.Originals.{jar_for}
use Rattle.cookie.specs.Sealing.{IsNonce}
use Rattle.cookie_client.specs.Calls.{IsFitCall, IsOutcome, changes_of}
use Rattle.cookie_client.specs.Client.{Values, after_texts, header_text}
use Rattle.cookie_client.specs.declared.call.JarCall.{JarCall}
use Rattle.cookie_session.specs.Session.{SessionState}
use Rattle.cookie_session.specs.Sessions.{CanSave, CanSealSession, IsOpen, LivesAt, bare_cookie, meets_prefix, saved_cookie}
use Rattle.cookie_session.specs.Size.{browser_length, most_bytes}
use Rattle.cookie_session.specs.declared.opened.Opened.{Opened}
use Rattle.cookie_session.specs.declared.sessions.Sessions.{Sessions}

-- The site's cookie has a name, and no `;` in its path and its domain. The jar had no changes before the calls, each of
-- which is fit. The client held nothing under the empty name. The session lives at that time.
pub record CanReturn (site : Sessions) (jar : JarState) (calls : List JarCall) (client : Values)
    (now later : DateTime) (session : SessionState)
    : Type 0 where
  pub named : site.cookie.now.fields.name ≢ []
  pub uncut : IsUncut site.cookie.now.fields
  pub fresh : jar.delta ≡ empty
  pub fit : All (IsFitCall now) calls
  pub unnamed : get client [] ≡ None
  pub lives : LivesAt site later session

-- What a handler made of its request's jar: it made its calls, and then saved the session.
pub record IsHandled (IsDrawn : List ℕ → Type 0) (site : Sessions) (calls : List JarCall)
    (session : SessionState) (now : DateTime) (start jar : JarState)
    : Type 0 where
  -- one outcome a call: true for one that is never refused, false for one that always is
  pub outcomes : List Bool
  pub told : AllZip IsOutcome calls outcomes
  -- the session's cookie is sealed under a nonce that was drawn
  pub nonce : List ℕ
  pub is_nonce : IsNonce nonce
  pub drawn : IsDrawn nonce
  -- the jar is what the accepted calls made of it, with this cookie added
  pub made : jar
      ≡ after (Add (saved_cookie site nonce now session))
      (after_all (changes_of outcomes calls) start)
  -- the session is one that can be saved
  pub meets : meets_prefix site.cookie.now.fields ≡ true
  pub lives : CanSave site now session
  pub within : CanSealSession (bare_cookie site now session)
  -- a browser takes the cookie's size (RFC 6265bis 5.7)
  pub fits : browser_length (saved_cookie site nonce now session) ≤ most_bytes

-- the answer is the session that is open in the jar at this time, and the place of the key that opens it
abbrev pub IsOpened : Sessions → JarState → DateTime → Option Opened → Type 0
IsOpened site jar now answer =
    (place : ℕ) (session : SessionState)
    → (answer ≡ Some (record { session = session; place = place }))
    ↔ IsOpen site (view jar site.cookie.now.fields.name) now place session

-- What a request that saves a session came to, and the next request of its client.
pub record IsReturned (IsDrawn : List ℕ → Type 0) (site : Sessions) (calls : List JarCall)
    (session : SessionState) (now later : DateTime) (start jar : JarState)
    (before client : Values) (answer : Option Opened)
    : Type 0 where
  -- the calls were made on its jar, and the session was saved there
  pub handled : IsHandled IsDrawn site calls session now start jar
  -- its client is the one before, which read the delta's texts in some order
  pub read : (texts : List (List ℕ)) × AreDeltaTexts jar.delta texts
      × (client ≡ after_texts now texts before)
  -- the answer is what is open, at the later time, in the jar of the client's next header
  pub opened : IsOpened site (jar_for (header_text client)) later answer
