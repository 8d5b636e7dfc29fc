-- What the uses promise, in the words of a web application.
use Rattle.std.specs.Prelude.{◌≡◌, ℕ, List, Some, codes}
use Rattle.std.specs.FinMap.{get, insert}
use Rattle.jiff.specs.Types.{DateTime}
use Rattle.cookie.specs.AnswersExactly.{IsStoredFor}
use Rattle.cookie.specs.Jar.{JarState, view}
use Rattle.cookie.specs.Keys.{encryption_half}
use Rattle.cookie.specs.Record.{Record}
use Rattle.cookie.specs.Sealing.{IsSealingOf}
use Rattle.cookie_session.specs.Seconds.{second_of}
use Rattle.cookie_session.specs.Session.{SessionState}
use Rattle.cookie_session.specs.Sessions.{IsStored, OpensUnrevoked, started_at}
use Rattle.cookie_session.specs.declared.sessions.Sessions.{Sessions}

-- the jar shows a cookie `session` whose value is a sealing of the user under the key
abbrev pub IsSignedIn : List ℕ → JarState → List ℕ → Type 0
IsSignedIn key jar user =
    IsStoredFor (IsSealingOf (encryption_half key)) (view jar (codes "session")) user

-- the jar stores a session of the user that starts now
abbrev pub IsLoggedIn : Sessions → JarState → DateTime → List ℕ → Type 0
IsLoggedIn site jar now user =
    (session : SessionState) × (session.started ≡ second_of now)
    × (get session.texts (codes "user") ≡ Some user)
    × IsStored site (view jar site.cookie.now.fields.name) session

-- the session that is open in the request's cookies and isn't revoked is stored with the user, its other texts, another
-- id, and its start now
abbrev pub KeepsTexts : (List ℕ → Type 0) → Sessions → List Record → JarState → DateTime → List ℕ
    → Type 0
KeepsTexts IsRevoked site cookies after now user =
    (place : ℕ) (session : SessionState)
    → OpensUnrevoked IsRevoked site cookies now place session
    → (id : List ℕ) × IsStored site (view after site.cookie.now.fields.name)
    (started_at site now id (insert session.texts (codes "user") user))
