-- What comes of the acts of a site's handlers.
use Rattle.std.specs.Prelude.{◌≡◌, ◌↔◌, ◌⊎◌, ◌<◌, ◌≤◌, ℕ, ⊤, List, [], ◌∷◌, ◌++◌, Option, None, Some, MatchOption, max, slice_index_or, slice_set, true}
use Rattle.std.specs.FinMap.{FinMap, empty, insert}
use Rattle.jiff.specs.Types.{DateTime}
use Rattle.cookie.specs.Jar.{name_cmp}
use Rattle.cookie.specs.Originals.{field_cookies}
use Rattle.cookie_session.specs.Endings.{IsGone, IsSpent, MayBeSpent}
use Rattle.cookie_session.specs.Id.{IsId}
use Rattle.cookie_session.specs.Revocations.{AreForgotten, AreSame, IsRevoked}
use Rattle.cookie_session.specs.Seconds.{second_of}
use Rattle.cookie_session.specs.Session.{SessionState, pass_of}
use Rattle.cookie_session.specs.Sessions.{CanSave, CanSealSession, OpensUnrevoked, bare_cookie, meets_prefix, started_at}
use Rattle.cookie_session.specs.Size.{most_bytes}
use Rattle.cookie_session.specs.Visit.{MustSave, Replaces, VisitState, new_visit, opened_visit, renewed_visit, saved_visit}
use Rattle.cookie_session.specs.declared.pass.Pass.{Pass}
use Rattle.cookie_session.specs.declared.session_error.SessionError.{SessionError}
use Rattle.cookie_session.specs.declared.session_error.SessionError.TheVariants as refusal
use Rattle.cookie_session.specs.declared.sessions.Sessions.{Sessions}
use Rattle.cookie_theorems.specs.declared.act.Act.{Act}
use Rattle.cookie_theorems.specs.declared.act.Act.TheVariants.{Open, Renew, Restart, Write, Save, LogOut, Forget}
use Rattle.cookie_theorems.specs.declared.event.Event.{Event}
use Rattle.cookie_theorems.specs.declared.event.Event.TheVariants.{Replaced, Ended, Unsure, Gone, Nobody, Refused, Failed, Forgotten, Plain}
use Rattle.cookie_theorems.specs.declared.handling.Handling.{Handling}
use Rattle.cookie_theorems.specs.declared.site_request.SiteRequest.{SiteRequest}

-- ---- what is revoked

-- what was revoked before an event in this second, and what is after it
abbrev pub Leaves : ℕ → Event → (List ℕ → ℕ → Type 0) → (List ℕ → ℕ → Type 0) → Type 0
Leaves now (Replaced from to) old new = IsSpent now from old new
Leaves now (Ended pass) old new = IsSpent now pass old new
Leaves now (Unsure pass) old new = MayBeSpent pass old new
Leaves now (Gone pass) old new = IsGone now pass old new
Leaves now Nobody old new = AreSame old new
Leaves now (Refused why) old new = AreSame old new
Leaves now Failed old new = AreSame old new
Leaves now Forgotten old new = AreForgotten now old new
Leaves now Plain old new = AreSame old new

-- ---- what comes of an act: E says whether the store can fail, and G whether the generator can

-- why no session is started
abbrev pub IsNoStart : Type 0 → SessionError → Type 0
IsNoStart G why = (why ≡ refusal.OutOfMemory) ⊎ ((why ≡ refusal.Generator) × G)

-- why a session isn't saved
abbrev pub IsNoSave : Type 0 → Sessions → DateTime → SessionState → SessionError → Type 0
IsNoSave G site now session refusal.OutOfMemory = ⊤
IsNoSave G site now session refusal.Prefix = ¬ (meets_prefix site.cookie.now.fields ≡ true)
IsNoSave G site now session refusal.Over = ¬ (CanSave site now session)
IsNoSave G site now session (refusal.TooLarge size) = most_bytes < size
IsNoSave G site now session refusal.TooLong =
    CanSave site now session → ¬ (CanSealSession (bare_cookie site now session))
IsNoSave G site now session refusal.Generator = G

-- the visit is of the session that the request opens, and else of a new one
pub record IsVisit (set : List ℕ → ℕ → Type 0) (request : SiteRequest) (visit : VisitState) : Type 0
  where
    pub opened : (place : ℕ) (session : SessionState)
        → (visit ≡ opened_visit session place)
        ↔ OpensUnrevoked (IsRevoked set) request.sessions (field_cookies request.field.now)
        request.time place session
    pub started : visit.place ≡ None → visit
        ≡ new_visit (started_at request.sessions request.time visit.session.id empty)
        visit.shows_revoked

-- a request was opened
abbrev pub StartsVisit : Type 0 → Type 0 → (List ℕ → ℕ → Type 0) → SiteRequest
    → List (Option Handling) → Event → List (Option Handling) → Type 0
StartsVisit E G set request visits event after =
    ((event ≡ Plain) × (handling : Handling) × IsVisit set request handling.visit
    × (after ≡ visits ++ Some handling ∷ []))
    ⊎ (((why : SessionError) × (event ≡ Refused why) × IsNoStart G why × (after ≡ visits))
    ⊎ ((event ≡ Failed) × E × (after ≡ visits)))

-- the visit's session started anew, with these texts
abbrev pub IsAnew : Type 0 → Sessions → DateTime → FinMap name_cmp (List ℕ) → VisitState → Event
    → VisitState → Type 0
IsAnew G site now texts visit event after =
    ((event ≡ Plain) × (id : List ℕ) × IsId id
    × (after ≡ renewed_visit (started_at site now id texts) visit))
    ⊎ ((why : SessionError) × (event ≡ Refused why) × IsNoStart G why × (after ≡ visit))

-- a text was put at this name
abbrev pub IsWritten : List ℕ → List ℕ → VisitState → Event → VisitState → Type 0
IsWritten name text visit event after =
    ((event ≡ Plain) × (after ≡ record visit {
      session = record visit.session { texts = insert visit.session.texts name text };
      is_changed = true;
    }))
    ⊎ ((event ≡ Refused refusal.OutOfMemory) × (after ≡ visit))

-- a session that must be saved was saved, or why not
abbrev pub IsSaved : Type 0 → Type 0 → Sessions → DateTime → VisitState → Event → VisitState
    → Type 0
IsSaved E G site now visit event after =
    ((event ≡ Plain) × ((pass : Pass) → ¬ Replaces visit pass) × (after ≡ saved_visit visit))
    ⊎ (((from : Pass) × Replaces visit from
    × (((event ≡ Replaced from (pass_of visit.session)) × (after ≡ saved_visit visit))
    ⊎ (((event ≡ Gone from) ⊎ ((event ≡ Unsure from) × E)) × (after ≡ visit))))
    ⊎ ((why : SessionError) × (event ≡ Refused why) × IsNoSave G site now visit.session why
    × (after ≡ visit)))

-- a visit was saved if it must be
abbrev pub IsSavedIfNeeded : Type 0 → Type 0 → Sessions → DateTime → VisitState → Event → VisitState
    → Type 0
IsSavedIfNeeded E G site now visit event after =
    ((¬ MustSave site now visit) × (event ≡ Plain) × (after ≡ visit))
    ⊎ (MustSave site now visit × IsSaved E G site now visit event after)

-- the visitor was logged out, or why not
abbrev pub IsLoggedOut : Type 0 → VisitState → Event → Type 0
IsLoggedOut E visit event =
    ((event ≡ Nobody) × (visit.given ≡ None))
    ⊎ ((pass : Pass) × (visit.given ≡ Some pass)
    × (((event ≡ Ended pass) ⊎ (event ≡ Gone pass))
    ⊎ (((event ≡ Unsure pass) × E) ⊎ (event ≡ Refused refusal.OutOfMemory))))

-- the visit at this place, if there is one that hasn't logged out
abbrev pub visit_at : List (Option Handling) → ℕ → Option Handling
visit_at visits place = slice_index_or visits place None

-- an act on the visit at this place: nothing comes of it if there is none
abbrev pub IsOnVisit : ℕ → (VisitState → Event → VisitState → Type 0) → List (Option Handling)
    → Event → List (Option Handling) → Type 0
IsOnVisit place IsDone visits event after =
    MatchOption (visit_at visits place) ((event ≡ Plain) × (after ≡ visits)) (λ handling.
    (next : Handling) × IsDone handling.visit event next.visit
    × (after ≡ slice_set visits place (Some next)))

-- the same of a logout, after which the place is empty
abbrev pub IsOffVisit : ℕ → (VisitState → Event → Type 0) → List (Option Handling) → Event
    → List (Option Handling) → Type 0
IsOffVisit place IsDone visits event after =
    MatchOption (visit_at visits place) ((event ≡ Plain) × (after ≡ visits)) (λ handling.
    IsDone handling.visit event × (after ≡ slice_set visits place None))

-- which event came of the act, and which visits there are after it
abbrev pub Comes : Type 0 → Type 0 → (List ℕ → ℕ → Type 0) → Act → List (Option Handling) → Event
    → List (Option Handling) → Type 0
Comes E G set (Open request) visits event after = StartsVisit E G set request visits event after
Comes E G set (Renew place site now) visits event after =
    IsOnVisit place (λ visit. IsAnew G site now visit.session.texts visit) visits event after
Comes E G set (Restart place site now) visits event after =
    IsOnVisit place (IsAnew G site now empty) visits event after
Comes E G set (Write place name text) visits event after =
    IsOnVisit place (IsWritten name.now text.now) visits event after
Comes E G set (Save place site now) visits event after =
    IsOnVisit place (IsSavedIfNeeded E G site now) visits event after
Comes E G set (LogOut place site now) visits event after =
    IsOffVisit place (IsLoggedOut E) visits event after
Comes E G set (Forget now) visits event after =
    ((event ≡ Forgotten) ⊎ ((event ≡ Failed) × E)) × (after ≡ visits)

-- the second in which an act is done
abbrev pub time_of : Act → ℕ
time_of (Open request) = second_of request.time
time_of (Renew place site now) = second_of now
time_of (Restart place site now) = second_of now
time_of (Write place name text) = 0
time_of (Save place site now) = second_of now
time_of (LogOut place site now) = second_of now
time_of (Forget now) = now

-- what came of an act
pub record IsActed (E G : Type 0) (act : Act) (visits : List (Option Handling))
    (old : List ℕ → ℕ → Type 0) (event : Event) (after : List (Option Handling))
    (new : List ℕ → ℕ → Type 0) : Type 0 where
  pub comes : Comes E G old act visits event after
  pub leaves : Leaves (time_of act) event old new

-- one event came of each act, from the first visits and state of the store to the last
abbrev pub AreActed : {S : Type 0} → Type 0 → Type 0 → (S → List ℕ → ℕ → Type 0) → List Act
    → (List (Option Handling) × S) → List Event → (List (Option Handling) × S) → Type 0
AreActed E G set [] first [] last = first ≡ last
AreActed E G set [] first (event ∷ events) last = ⊥
AreActed E G set (act ∷ acts) first [] last = ⊥
AreActed {S} E G set (act ∷ acts) first (event ∷ events) last =
    (next : List (Option Handling) × S)
    × IsActed E G act first.0 (set first.1) event next.0 (set next.1)
    × AreActed E G set acts next events last

-- ---- when the acts come

-- No save and no logout, nor the second that is asked about at last, comes before a second up to which was forgotten.
-- Up to the first number was forgotten so far.
abbrev pub AreTimely : ℕ → List Act → ℕ → Type 0
AreTimely floor [] now = floor ≤ now
AreTimely floor (Open request ∷ acts) now = AreTimely floor acts now
AreTimely floor (Renew place site time ∷ acts) now = AreTimely floor acts now
AreTimely floor (Restart place site time ∷ acts) now = AreTimely floor acts now
AreTimely floor (Write place name text ∷ acts) now = AreTimely floor acts now
AreTimely floor (Save place site time ∷ acts) now =
    (floor ≤ second_of time) × AreTimely floor acts now
AreTimely floor (LogOut place site time ∷ acts) now =
    (floor ≤ second_of time) × AreTimely floor acts now
AreTimely floor (Forget time ∷ acts) now = AreTimely (max floor time) acts now
