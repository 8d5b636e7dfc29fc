-- A session that is found for C, and all that a request has open: `old` is what the handle has at the call and `new` at
-- the return.
use Rattle.std.specs.Prelude.{◌≡◌, ◌⊎◌, ℕ, List, Option, Some, None, is_some, replicate, false}
use Rattle.jiff.specs.Types.{DateTime}
use Rattle.cookie.specs.Originals.{first_of_name}
use Rattle.cookie.specs.Record.{Record}
use Rattle.cookie_session.specs.Session.{SessionState}
use Rattle.cookie_session.specs.Sessions.{AreFound, EachHoldsOne, HoldsOne, OpensFirst, site_cookies}
use Rattle.cookie_session.specs.Visit.{VisitState, opened_visit}
use Rattle.cookie_session.specs.declared.opened.Opened.{Opened}
use Rattle.cookie_session.specs.declared.pass.Pass.{Pass as Given}
use Rattle.cookie_session.specs.declared.sessions.Sessions.{Sessions}
use Rattle.cookie_c.specs.Codes.{code_of}
use Rattle.cookie_c.specs.Handles.{IsKept, IsPut, opened_in, session_in}
use Rattle.cookie_c.specs.declared.sessions.Opened.{Opened as OpenedHandle}
use Rattle.cookie_c.specs.declared.sessions.Session.{Session as Handle}
use Rattle.cookie_c.specs.declared.sessions.facts.SessionFacts.{SessionFacts}
use Rattle.cookie_c.specs.declared.sessions.pass.Pass.{Pass}
use Rattle.cookie_c.specs.declared.status.Status.{Status}
use Rattle.cookie_c.specs.declared.status.Status.TheVariants as status

-- what a handle has as a session
abbrev pub session_of : Handle → Option VisitState
session_of session = session_in session.handle.held.content

-- what a handle has as opened sessions
abbrev pub opened_of : OpenedHandle → Option (List Opened)
opened_of opened = opened_in opened.handle.held.content

-- no session is open in these cookies
abbrev pub HasNone : Sessions → List Record → DateTime → Type 0
HasNone site cookies time = (place : ℕ) (session : SessionState)
    → ¬ OpensFirst site cookies time place session

-- the session is in the handle, with the index of the key that opened it
abbrev pub IsOpened : ℕ → SessionState → Status → Option VisitState → Option VisitState → Type 0
IsOpened place session answer old new =
    (answer ≡ status.Done) × (new ≡ Some (opened_visit session place))

-- The session of the first cookie in which one is open is in the handle, and this cookie holds no other; or there is
-- none. In both cases the first cookie of the name holds one at most. Or else memory ran out.
abbrev pub IsOpening : Sessions → List Record → DateTime → Status → Option VisitState
    → Option VisitState → Type 0
IsOpening site cookies time answer old new =
    (HoldsOne site (first_of_name site.cookie.now.fields.name cookies)
    × (((place : ℕ) × (session : SessionState)
    × (first : OpensFirst site cookies time place session)
    × HoldsOne site (Some first.cookie) × IsOpened place session answer old new)
    ⊎ (HasNone site cookies time × IsKept status.NoSession answer old new)))
    ⊎ IsKept status.OutOfMemory answer old new

-- Each session that is open in a cookie of the site's name is in the handle, in the order of the cookies, and none of
-- these holds another. Or else memory ran out.
abbrev pub AreOpening : Sessions → List Record → DateTime → Status → Option (List Opened)
    → Option (List Opened) → Type 0
AreOpening site cookies time answer old new =
    ((opened : List Opened) × AreFound site time (site_cookies site cookies) opened
    × EachHoldsOne site (site_cookies site cookies) × IsPut opened answer old new)
    ⊎ IsKept status.OutOfMemory answer old new

-- the index of the key, and 0 if no request had the session
abbrev pub index_of : Option ℕ → ℕ
index_of None = 0
index_of (Some index) = index

-- what is told of a handle's session, and of a handle without one
abbrev pub facts_of : Option VisitState → SessionFacts
facts_of None =
    record {
      status = code_of status.NoSession;
      is_opened = false;
      index = 0;
      started = 0;
      seen = 0;
      end = 0;
      idle = 0;
      id = replicate 16 0;
    }
facts_of (Some had) =
    record {
      status = code_of status.Done;
      is_opened = is_some had.place;
      index = index_of had.place;
      started = had.session.started;
      seen = had.session.seen;
      end = had.session.end;
      idle = had.session.idle;
      id = had.session.id;
    }

-- what is told of a user agent that has no session, for this reason
abbrev pub no_pass : Status → Pass
no_pass why = record { status = code_of why; end = 0; id = replicate 16 0 }

-- what is told of what a user agent has
abbrev pub given_in : Option Given → Pass
given_in None = no_pass status.NotFound
given_in (Some pass) =
    record { status = code_of status.Done; end = pass.end; id = pass.id }

-- the same of the user agent of a handle's session, and of a handle without one
abbrev pub given_of : Option VisitState → Pass
given_of None = no_pass status.NoSession
given_of (Some had) = given_in had.given
