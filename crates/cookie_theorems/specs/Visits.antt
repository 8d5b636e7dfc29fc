-- Many requests of one user agent, to any sites, at any times.
use Rattle.std.specs.Prelude.{◌≡◌, ℕ, List, [], ◌∷◌, length, All}
use Rattle.std.specs.List.{AllZip}
use Rattle.jiff.specs.Types.{DateTime}
use Rattle.cookie.specs.History.{accepted_items, after_all}
use Rattle.cookie.specs.Jar.{Name}
use Rattle.cookie.specs.DeltaTexts.{AreDeltaTexts}
use Rattle.cookie_browser.specs.Request.{RequestView}
use Rattle.cookie_browser.specs.Suffixes.{Rule}
use Rattle.cookie_client.specs.Calls.{IsOutcome, changes_of}
use Rattle.cookie.specs.Originals.{jar_for}
use Rattle.cookie_theorems.specs.Agreement.{IsOurStore, PlanView, SiteAgrees, AreAlike}
use Rattle.cookie_theorems.specs.PlannedCalls.{IsPlannedCall}
use Rattle.cookie_agent.specs.Sent.{IsHeader, IsOrderedHeader}
use Rattle.cookie_agent.specs.Store.{AgentView}
use Rattle.cookie_theorems.specs.Reading.{agent_after_texts}
use Rattle.cookie_theorems.specs.declared.agent_request.AgentRequest.{AgentRequest}
use Rattle.cookie_theorems.specs.declared.visited.Visited.{Visited}

-- each call of the request that its jar accepted is as its name's plan has it
abbrev pub ArePlanned : List Rule → (Name → PlanView) → AgentRequest → Visited → Type 0
ArePlanned rules plans request visited =
    All (IsPlannedCall rules request.site.now request.moment plans)
    (accepted_items visited.outcomes.items request.calls.now)

-- What a request came to, for the agent before it.
pub record IsVisited (before : AgentView) (request : AgentRequest) (visited : Visited)
    : Type 0 where
  -- one outcome a call: true for one that is never refused, false for one that always is
  pub count : length visited.outcomes.items ≡ length request.calls.now
  pub outcomes : AllZip IsOutcome request.calls.now visited.outcomes.items
  -- it sent the agent's header
  pub sent : IsOrderedHeader request.site.now request.moment before.cookies visited.header.items
  -- its jar is what the accepted calls made of a new one with the header's cookies as its originals
  pub jar : visited.jar
      ≡ after_all (changes_of visited.outcomes.items request.calls.now)
      (jar_for visited.header.items)
  -- its agent is the one before, which read the delta's texts in some order
  pub read : (texts : List (List ℕ)) × AreDeltaTexts visited.jar.delta texts
      × (visited.agent ≡ agent_after_texts request.site.now request.moment texts before)
  -- if what is stored and each accepted call are as planned, then whatever the order and the repetition of the delta's
  -- texts, each header that is then sent to the site is read as what the jar shows
  pub agrees : (plans : Name → PlanView) → IsOurStore plans before.cookies
      → ArePlanned before.rules plans request visited
      → (texts : List (List ℕ)) → AreDeltaTexts visited.jar.delta texts
      → (header : List ℕ)
      → IsHeader request.site.now request.moment
      (agent_after_texts request.site.now request.moment texts before).cookies header
      → SiteAgrees visited.jar header
  -- and what is stored stays as planned
  pub ours : (plans : Name → PlanView) → IsOurStore plans before.cookies
      → ArePlanned before.rules plans request visited → IsOurStore plans visited.agent.cookies

-- Requests came to this, one after the other. The agent of each goes on to the next.
abbrev pub AreVisited : AgentView → List AgentRequest → List Visited → Type 0
AreVisited before [] [] = Unit {0}
AreVisited before [] (visited ∷ visits) = ⊥
AreVisited before (request ∷ requests) [] = ⊥
AreVisited before (request ∷ requests) (visited ∷ visits) =
    IsVisited before request visited × AreVisited visited.agent requests visits

-- the premise, once for all requests
abbrev pub AreAllPlanned : List Rule → (Name → PlanView) → List AgentRequest → List Visited → Type 0
AreAllPlanned rules plans [] visits = Unit {0}
AreAllPlanned rules plans (request ∷ requests) [] = Unit {0}
AreAllPlanned rules plans (request ∷ requests) (visited ∷ visits) =
    ArePlanned rules plans request visited × AreAllPlanned rules plans requests visits

-- after each request, whatever header its agent sends to the site is read as what its jar shows
abbrev pub AllAgree : List AgentRequest → List Visited → Type 0
AllAgree [] visits = Unit {0}
AllAgree (request ∷ requests) [] = Unit {0}
AllAgree (request ∷ requests) (visited ∷ visits) =
    ((header : List ℕ) → IsHeader request.site.now request.moment visited.agent.cookies header
    → SiteAgrees visited.jar header) × AllAgree requests visits

-- whatever header its agent sends to a site that is alike is read as what its jar shows, as the next request has it
-- until something expires
abbrev pub AgreesOn : (Name → PlanView) → AgentRequest → Visited → Type 0
AgreesOn plans request visited =
    (other : RequestView) (later : DateTime)
    → AreAlike plans visited.agent.cookies request.site.now other request.moment later
    → (header : List ℕ) → IsHeader other later visited.agent.cookies header
    → SiteAgrees visited.jar header

-- so it is after each request
abbrev pub AllAgreeOn : (Name → PlanView) → List AgentRequest → List Visited → Type 0
AllAgreeOn plans [] visits = Unit {0}
AllAgreeOn plans (request ∷ requests) [] = Unit {0}
AllAgreeOn plans (request ∷ requests) (visited ∷ visits) =
    AgreesOn plans request visited × AllAgreeOn plans requests visits
