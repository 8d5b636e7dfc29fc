-- Which session is found for C.
use Rattle.std.proofs.Common.{◌≡◌, ◌↔◌, ℕ, List, Option, Some, None, refl, inl, inr}
use Rattle.std.proofs.lemmas.Option.{none-some}
use Rattle.jiff.specs.Types.{DateTime}
use Rattle.cookie.specs.Record.{Record}
use Rattle.cookie.specs.Originals.{first_of_name}
use Rattle.cookie_session.specs.Session.{SessionState}
use Rattle.cookie_session.specs.Sessions.{HoldsOne, OpensFirst}
use Rattle.cookie_session.specs.Visit.{VisitState, opened_visit}
use Rattle.cookie_session.specs.declared.opened.Opened.{Opened}
use Rattle.cookie_session.specs.declared.sessions.Sessions.{Sessions}
use Rattle.cookie_c.specs.Handles.{IsKept, IsPut}
use Rattle.cookie_c.specs.OpenedSessions.{HasNone, IsOpening}
use Rattle.cookie_c.specs.declared.status.Status.{Status}
use Rattle.cookie_c.specs.declared.status.Status.TheVariants as status

-- The session that is found, if any, is the one of the first cookie in which one is open. This cookie holds no other,
-- whatever the time. The first cookie of the name holds one at most, whether one is open or not.
pub record Finds (site : Sessions) (cookies : List Record) (time : DateTime) (found : Option Opened)
    : Type 0 where
  pub exact : (place : ℕ) (session : SessionState)
      → (found ≡ Some (record { session = session; place = place }))
      ↔ OpensFirst site cookies time place session
  pub once : (place : ℕ) (session : SessionState)
      → (first : OpensFirst site cookies time place session)
      → HoldsOne site (Some first.cookie)
  pub first : HoldsOne site (first_of_name site.cookie.now.fields.name cookies)

module _ (site : Sessions) (cookies : List Record) (time : DateTime) where
  -- the session that was found is open
  pub found_is_open : (opened : Opened) → Finds site cookies time (Some opened) → OpensFirst site cookies time opened.place opened.session
  found_is_open opened finds = (finds.exact opened.place opened.session).0 refl

  pub found_none : Finds site cookies time None → HasNone site cookies time
  found_none finds place session is = none-some (record { session = session; place = place }) ((finds.exact place session).1 is)

  -- if none is found, there is none
  pub opening_none : (answer : Status) (old new : Option VisitState) → Finds site cookies time None → IsKept status.NoSession answer old new
      → IsOpening site cookies time answer old new
  opening_none answer old new finds kept = inl (finds.first, inr (found_none finds, kept))

  -- it is put into the handle, or memory ran out
  pub opening_put : (opened : Opened) (answer : Status) (old new : Option VisitState) → Finds site cookies time (Some opened)
      → IsPut (opened_visit opened.session opened.place) answer old new
      → IsOpening site cookies time answer old new
  opening_put opened answer old new finds (inl puts) =
      let first = found_is_open opened finds in
      inl (finds.first, inl (opened.place, opened.session, first, finds.once opened.place opened.session first, puts))
  opening_put opened answer old new finds (inr kept) = inr kept
