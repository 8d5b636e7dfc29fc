-- Each request goes on from the agent that the one before left.
use Rattle.std.proofs.Common.{◌≡◌, ◌+◌, [], ◌∷◌, ◌++◌, drop, sym, ap, subst, ◌∙◌, append-nil, append_assoc, drop_of_length-le}
use Rattle.std.proofs.lemmas.List.{drop_more}
use Rattle.cookie_agent.specs.Store.{AgentView}
use Rattle.cookie_theorems.specs.Visits.{AreVisited, IsVisited}
use Rattle.cookie_theorems.proofs.VisitedLemmas.{visited-length, all_agree, all_agree_on}
use Rattle.cookie_theorems.proofs.visits.visits.Goals as goal

pub loop-request-preserved : goal.loop-request-preserved
loop-request-preserved c =
    let none : AgentView = record { rules = c.args.suffixes.now; cookies = [] } in
    let before = c.loop-request.agent in
    let one = c.in_ok-one.one in
    let requests = c.args.requests.now in
    let later = drop (c.loop-request.request-index + 1) requests in
    let this : IsVisited before c.request-item.result one = c.in_ok-one.ensures.visit in
    let first : drop c.loop-request.request-index requests ≡ c.request-item.result ∷ later =
    drop_more requests c.loop-request.request-index c.request-item.result c.loop-request-test.true ∙ ap (λ r. r ∷ later) (sym c.request-item.is) in
    λ rest h.
    subst (AreVisited none requests)
    (sym (append_assoc c.loop-request.visited.items (one ∷ []) rest) ∙ ap (λ ps. ps ++ rest) (sym c.in_ok-push.ensures.items))
    (c.loop-request.invariant (one ∷ rest)
    (subst (λ rs. AreVisited before rs (one ∷ rest)) (sym first) (this, subst (λ agent. AreVisited agent later rest) c.in_ok-agent.ensures h)))

pub returns-clause-visits : goal.returns-clause-visits
returns-clause-visits c =
    let none : AgentView = record { rules = c.args.suffixes.now; cookies = [] } in
    subst (AreVisited none c.args.requests.now) (append-nil c.loop-request.visited.items)
    (c.loop-request.invariant []
    (subst (λ rs. AreVisited c.loop-request.agent rs []) (sym (drop_of_length-le c.args.requests.now c.loop-request-test.false)) tt))

pub returns-clause-count : goal.returns-clause-count
returns-clause-count c = visited-length (record { rules = c.args.suffixes.now; cookies = [] }) c.args.requests.now c.loop-request.visited.items (returns-clause-visits c)

pub returns-clause-agreement : goal.returns-clause-agreement
returns-clause-agreement c = all_agree c.args.suffixes.now c.args.requests.now c.loop-request.visited.items (returns-clause-visits c)

pub returns-clause-alike : goal.returns-clause-alike
returns-clause-alike c = all_agree_on c.args.suffixes.now c.args.requests.now c.loop-request.visited.items (returns-clause-visits c)
