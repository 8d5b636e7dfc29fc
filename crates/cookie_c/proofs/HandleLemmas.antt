-- What a call on a handle makes of what the handle has.
use Rattle.std.proofs.Common.{◌≡◌, ℕ, Option, Some, None, refl, sym, ap, subst, ◌∙◌}
use Rattle.cookie.specs.Jar.{JarState}
use Rattle.cookie_browser.specs.Storage.{CookieStore}
use Rattle.cookie_session.specs.Visit.{VisitState}
use Rattle.cookie_c.specs.Agents.{ChangesStore}
use Rattle.cookie_c.specs.Codes.{code_of}
use Rattle.cookie_c.specs.Handles.{Changes, Tells, jar_in, session_in, store_in}
use Rattle.cookie_c.specs.Jars.{AtJar}
use Rattle.cookie_c.specs.OpenedSessions.{session_of}
use Rattle.cookie_c.specs.SessionCalls.{AtSession}
use Rattle.cookie_c.specs.declared.agent.Agent.{Agent}
use Rattle.cookie_c.specs.declared.handle.content.Content.{Content}
use Rattle.cookie_c.specs.declared.handle.content.Content.TheVariants as content
use Rattle.cookie_c.specs.declared.jar.Jar.{Jar}
use Rattle.cookie_c.specs.declared.sessions.Session.{Session}
use Rattle.cookie_c.specs.declared.status.Status.{Status}
use Rattle.cookie_c.specs.declared.status.Status.TheVariants as status

-- the handle lacks what the call is on, and still does
module _ {X : Type 0} (lacks : Status) (Makes : Status → X → X → Type 0) (number : ℕ) (old new : Option X) where
  pub lacking : old ≡ None → new ≡ None → number ≡ code_of lacks → Tells (λ a. Changes lacks Makes a old new) number
  lacking none left told =
      (lacks, told, subst (λ o. Changes lacks Makes lacks o new) (sym none) (subst (λ n. Changes lacks Makes lacks None n) (sym left) (refl, refl)))

-- `held` is what a handle had, `seen` what the call saw of it, and `made` what it left there
module _ {X : Type 0} (In : Option Content → Option X) (lacks : Status) (Makes : Status → X → X → Type 0) (old new : Option Content)
    (answer : Status) (held seen : Content) (had made : X) where
  changes : Some held ≡ old → seen ≡ held → In (Some seen) ≡ Some had → In new ≡ Some made → Makes answer had made
      → Changes lacks Makes answer (In old) (In new)
  changes some same is left makes =
      subst (λ o. Changes lacks Makes answer o (In new)) (sym is ∙ ap (λ (c : Content). In (Some c)) same ∙ ap In some)
      (subst (λ n. Changes lacks Makes answer (Some had) n) (sym left) (made, refl, makes))

  changed : (number : ℕ) → Some held ≡ old → seen ≡ held → In (Some seen) ≡ Some had → In new ≡ Some made → number ≡ code_of answer → Makes answer had made
      → Tells (λ a. Changes lacks Makes a (In old) (In new)) number
  changed number some same is left told makes = (answer, told, changes some same is left makes)

pub jar_changed : (Makes : Status → JarState → JarState → Type 0) (number : ℕ) (old new : Jar) (answer : Status) (held seen : Content) (had made : JarState)
    → Some held ≡ old.handle.held.content → seen ≡ held → seen ≡ content.Jar had → new.handle.held.content ≡ Some (content.Jar made)
    → number ≡ code_of answer → Makes answer had made → AtJar Makes number old new
jar_changed Makes number old new answer held seen had made some same is left told makes =
    changed jar_in status.NoJar Makes old.handle.held.content new.handle.held.content answer held seen had made number some same
    (ap (λ (c : Content). jar_in (Some c)) is) (ap jar_in left) told makes

pub session_changed : (Makes : Status → VisitState → VisitState → Type 0) (number : ℕ) (old new : Session) (answer : Status) (held seen : Content) (had made : VisitState)
    → Some held ≡ old.handle.held.content → seen ≡ held → seen ≡ content.Session had → new.handle.held.content ≡ Some (content.Session made)
    → number ≡ code_of answer → Makes answer had made → AtSession Makes number old new
session_changed Makes number old new answer held seen had made some same is left told makes =
    changed session_in status.NoSession Makes old.handle.held.content new.handle.held.content answer held seen had made number some same
    (ap (λ (c : Content). session_in (Some c)) is) (ap session_in left) told makes

-- the same of a call that returns its answer itself
pub session_changes : (Makes : Status → VisitState → VisitState → Type 0) (old new : Session) (answer : Status) (held seen : Content) (had made : VisitState)
    → Some held ≡ old.handle.held.content → seen ≡ held → seen ≡ content.Session had → new.handle.held.content ≡ Some (content.Session made)
    → Makes answer had made → Changes status.NoSession Makes answer (session_of old) (session_of new)
session_changes Makes old new answer held seen had made some same is left makes =
    changes session_in status.NoSession Makes old.handle.held.content new.handle.held.content answer held seen had made some same
    (ap (λ (c : Content). session_in (Some c)) is) (ap session_in left) makes

pub store_changed : (Makes : Status → CookieStore → CookieStore → Type 0) (number : ℕ) (old new : Agent) (answer : Status) (held seen : Content) (had made : CookieStore)
    → Some held ≡ old.handle.held.content → seen ≡ held → seen ≡ content.Store had → new.handle.held.content ≡ Some (content.Store made)
    → number ≡ code_of answer → Makes answer had made → ChangesStore Makes number old new
store_changed Makes number old new answer held seen had made some same is left told makes =
    changed store_in status.NoAgent Makes old.handle.held.content new.handle.held.content answer held seen had made number some same
    (ap (λ (c : Content). store_in (Some c)) is) (ap store_in left) told makes
