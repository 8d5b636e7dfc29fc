-- What a request came to is what its definition says, and so is what many came to.
use Rattle.std.proofs.Common.{◌≡◌, ℕ, List, [], ◌∷◌, length, refl, sym, subst, ◌∙◌, ap, arith}
use Rattle.std.proofs.lemmas.List.Elements.{All-map}
use Rattle.std.specs.List.{AllZip}
use Rattle.cookie.specs.History.{accepted_items, after_all}
use Rattle.cookie.specs.Jar.{Name}
use Rattle.cookie.specs.DeltaTexts.{AreDeltaTexts}
use Rattle.cookie_client.specs.Calls.{IsOutcome, change_of, changes_of}
use Rattle.cookie.specs.Originals.{jar_for}
use Rattle.cookie_client.proofs.ChangeLemmas.{known_changes}
use Rattle.cookie_browser.specs.Suffixes.{Rule}
use Rattle.cookie_theorems.specs.Agreement.{IsOurStore, PlanView}
use Rattle.cookie_theorems.specs.PlannedCalls.{IsPlannedChange}
use Rattle.cookie_agent.specs.Sent.{IsHeader, IsOrderedHeader}
use Rattle.cookie_agent.specs.Store.{AgentView}
use Rattle.cookie_theorems.specs.Reading.{agent_after_texts}
use Rattle.cookie_theorems.specs.Visits.{IsVisited, ArePlanned, AreVisited, AreAllPlanned, AllAgree, AgreesOn, AllAgreeOn}
use Rattle.cookie_theorems.specs.declared.agent_request.AgentRequest.{AgentRequest}
use Rattle.cookie_theorems.specs.declared.visited.Visited.{Visited}
use Rattle.cookie_theorems.proofs.AlikeLemmas.{header_alike}
use Rattle.cookie_theorems.proofs.VisitCallLemmas.{followable}
use Rattle.cookie_theorems.proofs.VisitLemmas.{IsFollowable, agreed, stays, none_stored}

-- what the code knows of a request
pub record IsPlayed (before : AgentView) (request : AgentRequest) (visited : Visited) : Type 0 where
  pub count : length visited.outcomes.items ≡ length request.calls.now
  pub outcomes : AllZip IsOutcome request.calls.now visited.outcomes.items
  pub sent : IsOrderedHeader request.site.now request.moment before.cookies visited.header.items
  pub jar : visited.jar ≡ after_all (changes_of visited.outcomes.items request.calls.now) (jar_for visited.header.items)
  pub texts : List (List ℕ)
  pub are : AreDeltaTexts visited.jar.delta texts
  pub read : visited.agent ≡ agent_after_texts request.site.now request.moment texts before

module _ (before : AgentView) (request : AgentRequest) (visited : Visited) (is : IsPlayed before request visited) where
  abbrev header : List ℕ
  header = visited.header.items

  can_follow : (plans : Name → PlanView) → IsOurStore plans before.cookies → ArePlanned before.rules plans request visited
      → IsFollowable before.rules plans before.cookies request.site.now request.moment header visited.jar
  can_follow plans ours planned =
      subst (IsFollowable before.rules plans before.cookies request.site.now request.moment header) (sym is.jar)
      (followable before.rules plans before.cookies ours request.site.now request.moment header is.sent.is (changes_of visited.outcomes.items request.calls.now)
      (known_changes visited.outcomes.items request.calls.now is.outcomes)
      (All-map (IsPlannedChange before.rules request.site.now request.moment plans) change_of (accepted_items visited.outcomes.items request.calls.now) planned))

  pub is_visited : IsVisited before request visited
  is_visited =
      record {
        count = is.count;
        outcomes = is.outcomes;
        sent = is.sent;
        jar = is.jar;
        read = (is.texts, is.are, is.read);
        agrees = λ plans ours planned.
            agreed before.rules plans before.cookies ours request.site.now request.moment header visited.jar (can_follow plans ours planned);
        ours = λ plans ours planned.
            subst (λ (a : AgentView). IsOurStore plans a.cookies) (sym is.read)
            (stays before.rules plans before.cookies ours request.site.now request.moment header visited.jar (can_follow plans ours planned) is.texts is.are);
      }

-- ---- many requests

pub visited-length : (before : AgentView) (requests : List AgentRequest) (visits : List Visited) → AreVisited before requests visits → length visits ≡ length requests
visited-length before [] [] are = refl
visited-length before [] (visited ∷ visits) are = absurd are
visited-length before (request ∷ requests) [] are = absurd are
visited-length before (request ∷ requests) (visited ∷ visits) are =
    let h = visited-length visited.agent requests visits are.1 in
    omega arith

-- the rules stay
rules_stay : (rules : List Rule) (before : AgentView) (request : AgentRequest) (visited : Visited) → before.rules ≡ rules → IsVisited before request visited → visited.agent.rules ≡ rules
rules_stay rules before request visited same is =
    let (texts, deltas, read) = is.read in
    ap (λ (a : AgentView). a.rules) read ∙ same

agree_from : (rules : List Rule) (plans : Name → PlanView) (before : AgentView) → before.rules ≡ rules → IsOurStore plans before.cookies → (requests : List AgentRequest) (visits : List Visited)
    → AreVisited before requests visits → AreAllPlanned rules plans requests visits → AllAgree requests visits
agree_from rules plans before same ours [] visits are planned = tt
agree_from rules plans before same ours (request ∷ requests) [] are planned = tt
agree_from rules plans before same ours (request ∷ requests) (visited ∷ visits) are planned =
    let is = are.0 in
    let (texts, deltas, read) = is.read in
    let here : ArePlanned before.rules plans request visited = subst (λ r. ArePlanned r plans request visited) (sym same) planned.0 in (
      λ header h. is.agrees plans ours here texts deltas header (subst (λ (a : AgentView). IsHeader request.site.now request.moment a.cookies header) read h),
      agree_from rules plans visited.agent (rules_stay rules before request visited same is) (is.ours plans ours here) requests visits are.1 planned.1,
    )

pub all_agree : (rules : List Rule) (requests : List AgentRequest) (visits : List Visited) → AreVisited (record { rules = rules; cookies = [] }) requests visits
    → (plans : Name → PlanView) → AreAllPlanned rules plans requests visits → AllAgree requests visits
all_agree rules requests visits are plans planned = agree_from rules plans (record { rules = rules; cookies = [] }) refl (none_stored plans) requests visits are planned

-- what a request comes to agrees on
pub agrees_on : (plans : Name → PlanView) (before : AgentView) → IsOurStore plans before.cookies → (request : AgentRequest) (visited : Visited)
    → IsVisited before request visited → ArePlanned before.rules plans request visited → AgreesOn plans request visited
agrees_on plans before ours request visited is planned other later alike header h =
    let (texts, deltas, read) = is.read in
    is.agrees plans ours planned texts deltas header
    (subst (λ (a : AgentView). IsHeader request.site.now request.moment a.cookies header) read
    (header_alike plans visited.agent.cookies request.site.now other request.moment later (is.ours plans ours planned).each alike header h))

agree_on : (rules : List Rule) (plans : Name → PlanView) (before : AgentView) → before.rules ≡ rules → IsOurStore plans before.cookies → (requests : List AgentRequest) (visits : List Visited)
    → AreVisited before requests visits → AreAllPlanned rules plans requests visits → AllAgreeOn plans requests visits
agree_on rules plans before same ours [] visits are planned = tt
agree_on rules plans before same ours (request ∷ requests) [] are planned = tt
agree_on rules plans before same ours (request ∷ requests) (visited ∷ visits) are planned =
    let here : ArePlanned before.rules plans request visited = subst (λ r. ArePlanned r plans request visited) (sym same) planned.0 in (
      agrees_on plans before ours request visited are.0 here,
      agree_on rules plans visited.agent (rules_stay rules before request visited same are.0) (are.0.ours plans ours here) requests visits are.1 planned.1,
    )

pub all_agree_on : (rules : List Rule) (requests : List AgentRequest) (visits : List Visited) → AreVisited (record { rules = rules; cookies = [] }) requests visits
    → (plans : Name → PlanView) → AreAllPlanned rules plans requests visits → AllAgreeOn plans requests visits
all_agree_on rules requests visits are plans planned = agree_on rules plans (record { rules = rules; cookies = [] }) refl (none_stored plans) requests visits are planned
