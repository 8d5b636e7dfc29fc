-- The calls on a session in a handle: `old` is the session at the call and `new` at the return. Of a call that gives a
-- text they are the buffer.
use Rattle.std.specs.Prelude.{◌≡◌, ◌≢◌, ℕ, ◌≤◌, ◌⊎◌, Bool, false, true, List, IsUtf8, Option, Some, None}
use Rattle.std.specs.FinMap.{FinMap, empty, get, insert, remove}
use Rattle.std.specs.Fmt.{decimal}
use Rattle.jiff.specs.Types.{DateTime}
use Rattle.cookie.specs.Jar.{name_cmp}
use Rattle.cookie_session.specs.Form.{texts_of_form}
use Rattle.cookie_session.specs.Endings.{IsEndedBy}
use Rattle.cookie_session.specs.Generation.{IsSince, generation_name}
use Rattle.cookie_session.specs.Seconds.{second_of}
use Rattle.cookie_session.specs.Sessions.{started_at}
use Rattle.cookie_session.specs.Visit.{VisitState, new_visit, renewed_visit}
use Rattle.cookie_session.specs.declared.pass.Pass.{Pass}
use Rattle.cookie_session.specs.declared.sessions.Sessions.{Sessions}
use Rattle.cookie_c.specs.Answers.{IsGiven, IsRefused}
use Rattle.cookie_c.specs.Handles.{Changes, IsKept, Tells}
use Rattle.cookie_c.specs.OpenedSessions.{session_of}
use Rattle.cookie_c.specs.declared.answer.Answer.{Answer}
use Rattle.cookie_c.specs.declared.sessions.Session.{Session as Handle}
use Rattle.cookie_c.specs.declared.status.Status.{Status}
use Rattle.cookie_c.specs.declared.status.Status.TheVariants as status

-- the session that starts at this time, with this id, without texts, and with the limits that the site has
abbrev pub new_session : Sessions → List ℕ → DateTime → VisitState
new_session site id time = new_visit (started_at site time id empty) false

-- the session with another id, which starts at this time; what the user agent has stays
abbrev pub renewed_session : Sessions → List ℕ → DateTime → VisitState → VisitState
renewed_session site id time had =
    renewed_visit (started_at site time id had.session.texts) had

-- the session of the handle starts anew at this time, with this id and the limits that the site has
abbrev pub Renews : Sessions → List ℕ → DateTime → Status → Option VisitState → Option VisitState
    → Type 0
Renews site id time =
    Changes status.NoSession
    (λ answer old new. (answer ≡ status.Done) × (new ≡ renewed_session site id time old))

-- the session with these texts in place of its own; it was changed
abbrev pub with_texts : FinMap name_cmp (List ℕ) → VisitState → VisitState
with_texts texts had =
    record had { session = record had.session { texts = texts }; is_changed = true }

-- the session has these texts now, or memory ran out
abbrev pub HasTexts : FinMap name_cmp (List ℕ) → Status → VisitState → VisitState → Type 0
HasTexts texts answer old new =
    ((answer ≡ status.Done) × (new ≡ with_texts texts old))
    ⊎ IsKept status.OutOfMemory answer old new

-- the text is put at the name
pub record IsSet (name text : List ℕ) (answer : Status) (old new : VisitState) : Type 0 where
  pub not_utf8 : ¬ (IsUtf8 name × IsUtf8 text) → IsKept status.NotUtf8 answer old new
  pub set : IsUtf8 name → IsUtf8 text
      → HasTexts (insert old.session.texts name text) answer old new

-- the text at the name is gone
pub record IsUnset (name : List ℕ) (answer : Status) (old new : VisitState) : Type 0 where
  pub not_utf8 : ¬ IsUtf8 name → IsKept status.NotUtf8 answer old new
  pub absent : IsUtf8 name → get old.session.texts name ≡ None → IsKept status.Done answer old new
  pub unset : IsUtf8 name → get old.session.texts name ≢ None
      → (answer ≡ status.Done) × (new ≡ with_texts (remove old.session.texts name) old)

-- the texts are the form's, and no others
abbrev pub HasForm : List ℕ → Status → VisitState → VisitState → Type 0
HasForm form answer old new = HasTexts (texts_of_form form) answer old new

-- the text at the name is given
pub record IsTextGiven (name : List ℕ) (had : VisitState) (answer : Answer) (old new : List ℕ)
    : Type 0 where
  pub not_utf8 : ¬ IsUtf8 name → IsRefused status.NotUtf8 answer old new
  pub not_found : IsUtf8 name → get had.session.texts name ≡ None
      → IsRefused status.NotFound answer old new
  pub given : (text : List ℕ) → IsUtf8 name → get had.session.texts name ≡ Some text
      → IsGiven text answer old new

-- the handle's session is as a call makes it, and the number is the number of the call's answer
abbrev pub AtSession : (Status → VisitState → VisitState → Type 0) → ℕ → Handle → Handle → Type 0
AtSession Makes number old new =
    Tells (λ answer. Changes status.NoSession Makes answer (session_of old) (session_of new)) number

-- ---- what the user agent has is ended

-- A store was asked to revoke what the user agent has, and says whether it was revoked before. The user agent has none;
-- or it was revoked before, or is over; or else `left` is left of `old`.
pub record IsEnding {X : Type 0} (time : DateTime) (was_revoked : Bool) (given : Option Pass)
    (answer : Status) (old left new : X) : Type 0 where
  pub nobody : given ≡ None → IsKept status.NotFound answer old new
  pub gone : (pass : Pass) → given ≡ Some pass
      → (was_revoked ≡ true) ⊎ (pass.end ≤ second_of time) → IsKept status.Gone answer old new
  pub ended : IsEndedBy (second_of time) was_revoked given → (answer ≡ status.Done) × (new ≡ left)

-- the user agent has nothing then, and the session stays
abbrev pub EndsGiven : DateTime → Bool → Status → VisitState → VisitState → Type 0
EndsGiven time was_revoked answer old new =
    IsEnding time was_revoked old.given answer old (record old { given = None }) new

-- the same of the session that a handle has
abbrev pub ReplacesHeld : DateTime → Bool → Status → Option VisitState → Option VisitState → Type 0
ReplacesHeld time was_revoked = Changes status.NoSession (EndsGiven time was_revoked)

-- the user agent has nothing then, and the handle has no session
abbrev pub LogsOut : DateTime → Bool → Status → Option VisitState → Option VisitState → Type 0
LogsOut time was_revoked answer None new = (answer ≡ status.NoSession) × (new ≡ None)
LogsOut time was_revoked answer (Some had) new =
    IsEnding time was_revoked had.given answer (Some had) None new

-- ---- the generation of a user's sessions

-- the session keeps this generation now, or memory ran out
abbrev pub HasGeneration : ℕ → Status → VisitState → VisitState → Type 0
HasGeneration generation answer old new =
    HasTexts (insert old.session.texts generation_name (decimal generation)) answer old new

-- the handle has a session, which keeps this generation or a later one
abbrev pub HeldIsSince : ℕ → Option VisitState → Type 0
HeldIsSince generation None = ⊥
HeldIsSince generation (Some had) = IsSince generation had.session
