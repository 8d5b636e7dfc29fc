-- Requests to a site that can revoke sessions, and what is revoked at each of them.
use Rattle.std.specs.Prelude.{◌≡◌, ◌⊎◌, ◌≤◌, ◌<◌, ◌+◌, ◌↔◌, ℕ, All, List, [], ◌∷◌, Option, Some, IfSome, take, ⊤}
use Rattle.cookie.specs.Originals.{field_cookies}
use Rattle.cookie_session.specs.Revocations.{AreSame, IsRevoked}
use Rattle.cookie_session.specs.Seconds.{second_of}
use Rattle.cookie_session.specs.Session.{SessionState}
use Rattle.cookie_session.specs.Sessions.{OpensFirst, OpensOne, OpensUnrevoked}
use Rattle.cookie_session.specs.declared.opened.Opened.{Opened}
use Rattle.cookie_theorems.specs.declared.site_request.SiteRequest.{SiteRequest}

-- ---- what is revoked

-- once the session with this id is revoked too, until this second
abbrev pub revoked_too : List ℕ → ℕ → (List ℕ → ℕ → Type 0) → List ℕ → ℕ → Type 0
revoked_too gone until set id second = ((id ≡ gone) × (second ≤ until)) ⊎ set id second

-- once it was forgotten what is over in this second
abbrev pub left_at : ℕ → (List ℕ → ℕ → Type 0) → List ℕ → ℕ → Type 0
left_at now set id second = set id (now + 1) × set id second

-- after these requests, of which each forgets what is over at its time
abbrev pub left_after : List SiteRequest → (List ℕ → ℕ → Type 0) → List ℕ → ℕ → Type 0
left_after [] set = set
left_after (request ∷ requests) set =
    left_after requests (left_at (second_of request.time) set)

-- the same after the first of these requests, however many
abbrev pub AreLeft : List SiteRequest → (List ℕ → ℕ → Type 0) → (List ℕ → ℕ → Type 0) → Type 0
AreLeft requests old new = (done : ℕ) × AreSame (left_after (take done requests) old) new

-- the session is revoked until it is over
abbrev pub IsRevokedToEnd : (List ℕ → ℕ → Type 0) → SessionState → Type 0
IsRevokedToEnd set gone = (second : ℕ) → second ≤ gone.end → set gone.id second

-- ---- what the requests open

-- what is opened, if anything, is the session that the request's cookies open, if exactly these are revoked
abbrev pub IsAnswer : (List ℕ → ℕ → Type 0) → SiteRequest → Option Opened → Type 0
IsAnswer set request answer = (place : ℕ) (session : SessionState)
    → (answer ≡ Some (record { session = session; place = place }))
    ↔ OpensUnrevoked (IsRevoked set) request.sessions (field_cookies request.field.now)
    request.time place session

-- one answer for each request, by what is revoked then
abbrev pub AreAnswers : (List ℕ → ℕ → Type 0) → List SiteRequest → List (Option Opened) → Type 0
AreAnswers set [] [] = ⊤
AreAnswers set [] (answer ∷ answers) = ⊥
AreAnswers set (request ∷ requests) [] = ⊥
AreAnswers set (request ∷ requests) (answer ∷ answers) =
    IsAnswer (left_at (second_of request.time) set) request answer
    × AreAnswers (left_at (second_of request.time) set) requests answers

-- what is opened, if anything, is open in one of the request's cookies
abbrev pub IsAmong : SiteRequest → Option Opened → Type 0
IsAmong request answer = (place : ℕ) (session : SessionState)
    → answer ≡ Some (record { session = session; place = place })
    → OpensOne request.sessions (field_cookies request.field.now) request.time place session

-- the session that the request's cookies open, if none of these is revoked, is opened if it isn't one of those that are
-- gone
abbrev pub OpensOther : (List ℕ → Type 0) → SiteRequest → Option Opened → Type 0
OpensOther IsGone request answer = (place : ℕ) (session : SessionState)
    → OpensFirst request.sessions (field_cookies request.field.now) request.time place session
    → ¬ IsGone session.id → answer ≡ Some (record { session = session; place = place })

-- the two are the same session, saved at any times, with any texts
abbrev pub AreCopies : SessionState → SessionState → Type 0
AreCopies session other = (other.id ≡ session.id) × (other.end ≡ session.end)

-- what is opened, if anything, is another session
abbrev pub IsOther : SessionState → Option Opened → Type 0
IsOther gone answer = IfSome answer (λ opened. ¬ AreCopies gone opened.session)

-- ---- when the requests come

-- no request comes before this second, and none in an earlier second than the one before it
abbrev pub AreInOrder : ℕ → List SiteRequest → Type 0
AreInOrder from [] = ⊤
AreInOrder from (request ∷ requests) =
    (from ≤ second_of request.time) × AreInOrder (second_of request.time) requests

-- each request comes before this second
abbrev pub AreBefore : ℕ → List SiteRequest → Type 0
AreBefore second requests = All (λ request. second_of request.time < second) requests
