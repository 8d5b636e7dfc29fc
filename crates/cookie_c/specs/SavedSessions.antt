-- A session that is saved for C: `old` is the buffer at the call and `new` at the return.
use Rattle.std.specs.Prelude.{◌≡◌, ◌↔◌, ℕ, ◌<◌, ◌≤◌, ◌⊎◌, true, false, IsTrue, List, length, Option, None, Some}
use Rattle.jiff.specs.Types.{DateTime}
use Rattle.cookie.specs.Record.{Record}
use Rattle.cookie.specs.Text.{cookie_text}
use Rattle.cookie_session.specs.Seconds.{second_of}
use Rattle.cookie_session.specs.Session.{SessionState, seen_at}
use Rattle.cookie_session.specs.Sessions.{CanSave, CanSealSession, IsStored, bare_cookie, meets_prefix, saved_cookie}
use Rattle.cookie_session.specs.Size.{browser_length, most_bytes}
use Rattle.cookie_session.specs.Visit.{MustSave, Replaces, VisitState, saved_visit}
use Rattle.cookie_session.specs.declared.pass.Pass.{Pass}
use Rattle.cookie_session.specs.declared.session_error.SessionError.{SessionError}
use Rattle.cookie_session.specs.declared.session_error.SessionError.TheVariants as failure
use Rattle.cookie_session.specs.declared.sessions.Sessions.{Sessions}
use Rattle.cookie_c.specs.Answers.{IsGiven, IsRefused, IsTold}
use Rattle.cookie_c.specs.Codes.{code_of}
use Rattle.cookie_c.specs.Lastings.{AsLasting, IsKept, lasting_of}
use Rattle.cookie_c.specs.Sites.{AtSite}
use Rattle.cookie_c.specs.declared.answer.Answer.{Answer}
use Rattle.cookie_c.specs.declared.sessions.lasting.Lasting.{Lasting}
use Rattle.cookie_c.specs.declared.sessions.need.Need.{Need}
use Rattle.cookie_c.specs.declared.sessions.site.Site.{Site}
use Rattle.cookie_c.specs.declared.status.Status.{Status}
use Rattle.cookie_c.specs.declared.status.Status.TheVariants as status

-- the status of a refusal to save; a nonce that is passed in never fails
abbrev pub unsaved_status : SessionError → Status
unsaved_status failure.OutOfMemory = status.OutOfMemory
unsaved_status failure.Prefix = status.BadPrefix
unsaved_status failure.Over = status.Over
unsaved_status (failure.TooLarge size) = status.TooLarge
unsaved_status failure.TooLong = status.TooLong
unsaved_status failure.Generator = status.BadNonce

-- its number: the size of a cookie that is too large
abbrev pub unsaved_number : SessionError → ℕ
unsaved_number (failure.TooLarge size) = size
unsaved_number _ = 0

-- the session isn't saved for this reason, and nothing is written
abbrev pub IsUnsaved : Answer → List ℕ → List ℕ → SessionError → Type 0
IsUnsaved answer old new why =
    IsTold (unsaved_status why) (unsaved_number why) answer × (new ≡ old)

-- How a session is saved under this nonce: it fails for a reason, or the text of its cookie is given. Memory may run
-- out in any case.
pub record Saves (site : Sessions) (nonce : List ℕ) (time : DateTime) (session : SessionState)
    (Fails : SessionError → Type 0) (Gives : Record → Type 0) : Type 0 where
  pub prefix : ¬ (meets_prefix site.cookie.now.fields ≡ true)
      → Fails failure.Prefix ⊎ Fails failure.OutOfMemory
  pub over : meets_prefix site.cookie.now.fields ≡ true → ¬ CanSave site time session
      → Fails failure.Over ⊎ Fails failure.OutOfMemory
  pub too_long : meets_prefix site.cookie.now.fields ≡ true → CanSave site time session
      → ¬ CanSealSession (bare_cookie site time session)
      → Fails failure.TooLong ⊎ Fails failure.OutOfMemory
  pub too_large : meets_prefix site.cookie.now.fields ≡ true → CanSave site time session
      → CanSealSession (bare_cookie site time session)
      → most_bytes < browser_length (saved_cookie site nonce time session)
      → Fails (failure.TooLarge (browser_length (saved_cookie site nonce time session)))
      ⊎ Fails failure.OutOfMemory
  -- the cookie that is given holds the session, as long as it lives
  pub saved : meets_prefix site.cookie.now.fields ≡ true → CanSave site time session
      → CanSealSession (bare_cookie site time session)
      → browser_length (saved_cookie site nonce time session) ≤ most_bytes
      → (Gives (saved_cookie site nonce time session)
      × IsStored site (Some (saved_cookie site nonce time session))
      (seen_at (second_of time) session))
      ⊎ Fails failure.OutOfMemory

-- The text of a visit's cookie is given, and what the user agent has is the session's pass then. If the text has no
-- room, the visit stays as it was. A visit that replaces what the user agent has is refused, and stays as it was too.
pub record GivesSaved (text : List ℕ) (answer : Answer) (had made : VisitState) (old new : List ℕ)
    : Type 0 where
  pub replaces : (pass : Pass) → Replaces had pass
      → IsRefused status.Replaces answer old new × (made ≡ had)
  pub given : ((pass : Pass) → ¬ Replaces had pass) → IsGiven text answer old new
  pub marked : ((pass : Pass) → ¬ Replaces had pass) → length text ≤ length old
      → made ≡ saved_visit had
  pub kept : length old < length text → made ≡ had

-- so it is, or memory ran out, and nothing has changed
abbrev pub GivesSavedInMemory : List ℕ → Answer → VisitState → VisitState → List ℕ → List ℕ
    → Type 0
GivesSavedInMemory text answer had made old new =
    GivesSaved text answer had made old new
    ⊎ (IsRefused status.OutOfMemory answer old new × (made ≡ had))

-- the text of the visit's cookie is given, with the attributes that say how long a browser keeps it
abbrev pub GivesKept : Lasting → ℕ → Record → Answer → VisitState → VisitState → List ℕ → List ℕ
    → Type 0
GivesKept lasting now cookie answer had made old new =
    (given : Record) × IsKept lasting now cookie given
    × GivesSaved (cookie_text true false given) answer had made old new

-- how a visit is saved under this nonce, with what its handle has then
abbrev pub SavesVisit : Lasting → Sessions → List ℕ → DateTime → Answer → VisitState → VisitState
    → List ℕ → List ℕ → Type 0
SavesVisit lasting site nonce time answer had made old new =
    Saves site nonce time had.session
    (λ why. IsUnsaved answer old new why × (made ≡ had))
    (λ cookie. GivesKept lasting (second_of time) cookie answer had made old new)

-- the same of the session that a handle has, which a handle without one refuses
abbrev pub SavesHeld : Lasting → Sessions → List ℕ → DateTime → Answer → Option VisitState
    → Option VisitState → List ℕ → List ℕ → Type 0
SavesHeld lasting site nonce time answer None left old new =
    (left ≡ None) × IsRefused status.NoSession answer old new
SavesHeld lasting site nonce time answer (Some had) left old new =
    (made : VisitState) × (left ≡ Some made)
    × SavesVisit lasting site nonce time answer had made old new

-- the call is refused, and the handle has what it had
abbrev pub RefusesSave : Answer → Option VisitState → Option VisitState → List ℕ → List ℕ → Status
    → Type 0
RefusesSave answer had left old new why = IsRefused why answer old new × (left ≡ had)

-- the same at a handle of a site, in a second
abbrev pub SavesAt : Lasting → Option Site → List ℕ → ℕ → Answer → Option VisitState
    → Option VisitState → List ℕ → List ℕ → Type 0
SavesAt lasting site nonce now answer had left old new =
    AtSite site now
    (λ sessions time. SavesHeld lasting sessions nonce time answer had left old new)
    (RefusesSave answer had left old new)

-- the same for the number of what a browser is told
abbrev pub SavesFor : ℕ → Option Site → List ℕ → ℕ → Answer → Option VisitState
    → Option VisitState → List ℕ → List ℕ → Type 0
SavesFor number site nonce now answer had left old new =
    AsLasting (lasting_of number)
    (λ lasting. SavesAt lasting site nonce now answer had left old new)
    (RefusesSave answer had left old new)

-- ---- whether a session must be saved

-- what a call tells that is refused for this reason
abbrev pub no_need : Status → Need
no_need why = record { status = code_of why; must_save = false }

-- whether the handle's session must be saved then; a handle without one is refused
abbrev pub TellsNeed : Sessions → DateTime → Option VisitState → Need → Type 0
TellsNeed site now None answer = answer ≡ no_need status.NoSession
TellsNeed site now (Some had) answer =
    (answer.status ≡ code_of status.Done) × (IsTrue answer.must_save ↔ MustSave site now had)
