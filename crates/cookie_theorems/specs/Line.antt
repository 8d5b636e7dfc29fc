-- A login is one line of passes, of which at most one opens.
use Rattle.std.specs.Prelude.{◌≡◌, ◌⊎◌, ◌≤◌, ℕ, List, [], ◌∷◌, Some}
use Rattle.cookie.specs.Originals.{field_cookies}
use Rattle.cookie.specs.Record.{Record}
use Rattle.cookie_session.specs.Revocations.{IsRevoked}
use Rattle.cookie_session.specs.Seconds.{second_of}
use Rattle.cookie_session.specs.Session.{SessionState, pass_of}
use Rattle.cookie_session.specs.Sessions.{IsOpenUnrevoked, OpensUnrevoked}
use Rattle.cookie_session.specs.declared.pass.Pass.{Pass}
use Rattle.cookie_session.specs.declared.sessions.Sessions.{Sessions}
use Rattle.cookie_theorems.specs.declared.event.Event.{Event}
use Rattle.cookie_theorems.specs.declared.event.Event.TheVariants.{Replaced, Ended, Unsure}
use Rattle.cookie_theorems.specs.declared.site_request.SiteRequest.{SiteRequest}
use Rattle.jiff.specs.Types.{DateTime}

-- ---- a line

-- this event came
abbrev pub Came : List Event → Event → Type 0
Came [] event = ⊥
Came (first ∷ events) event = (event ≡ first) ⊎ Came events event

-- the second pass was given out in place of the first
abbrev pub Follows : List Event → Pass → Pass → Type 0
Follows events old new = Came events (Replaced old new)

-- from the first pass these lead to the last: each replaced the one before it, or was replaced by it
abbrev pub IsPath : List Event → Pass → List Pass → Pass → Type 0
IsPath events first [] last = first ≡ last
IsPath events first (next ∷ path) last =
    (Follows events first next ⊎ Follows events next first) × IsPath events next path last

-- the two are of one line
abbrev pub AreOfOneLine : List Event → Pass → Pass → Type 0
AreOfOneLine events first last = (path : List Pass) × IsPath events first path last

-- ---- what opens

-- some request in this second or later opens a session with this pass: whichever keys, limits and cookie its site has,
-- and whichever cookies it sends
abbrev pub IsOpenable : (List ℕ → ℕ → Type 0) → ℕ → Pass → Type 0
IsOpenable set now pass =
    (request : SiteRequest) × (now ≤ second_of request.time)
    × (place : ℕ) × (session : SessionState)
    × OpensUnrevoked (IsRevoked set) request.sessions (field_cookies request.field.now)
    request.time place session
    × (pass_of session ≡ pass)

-- From this second on at most one pass of a line opens by any request. After a logout that returned `Ended` for one of
-- them none does.
pub record IsOneLogin (set : List ℕ → ℕ → Type 0) (now : ℕ) (events : List Event) : Type 0 where
  pub one : (first other : Pass) → AreOfOneLine events first other
      → IsOpenable set now first → IsOpenable set now other → first ≡ other
  pub ended : (pass other : Pass) → Came events (Ended pass) → AreOfOneLine events pass other
      → ¬ IsOpenable set now other

-- ---- everybody else

-- an act revoked this id, or may have
abbrev pub IsTouched : List Event → List ℕ → Type 0
IsTouched events id =
    (pass : Pass) × (pass.id ≡ id)
    × (((to : Pass) × Came events (Replaced pass to))
    ⊎ (Came events (Ended pass) ⊎ Came events (Unsure pass)))

-- each cookie opens as before whose session no act touched
abbrev pub OpensAsBefore : List Event → (List ℕ → ℕ → Type 0) → (List ℕ → ℕ → Type 0) → Type 0
OpensAsBefore events old new =
    (site : Sessions) (cookie : Record) (now : DateTime) (place : ℕ) (session : SessionState)
    → (¬ IsTouched events session.id)
    → IsOpenUnrevoked (IsRevoked old) site (Some cookie) now place session
    → IsOpenUnrevoked (IsRevoked new) site (Some cookie) now place session
