use Rattle.std.proofs.Common.{◌≡◌, inr, refl}
use Rattle.cookie_c.specs.Agents.{GivesHeader}
use Rattle.cookie_c.specs.Answers.{IsRefused}
use Rattle.cookie_c.proofs.AgentLemmas.{seen_told}
use Rattle.cookie_c.proofs.SiteLemmas.{at_second}
use Rattle.cookie_c.proofs.agent.send.send.Goals as goal

pub returns-in-Ok : goal.returns-in-Ok
returns-in-Ok c =
    at_second _ _ _ c.in-Some.now c.in-Some.ensures
    (seen_told c.args.request.now c.in-Ok.site
    (λ site. GivesHeader c.args.is_made site c.in-Some.now c.give_header.result c.args.store.now c.give_header.new.store c.args.out.now c.give_header.new.out)
    (λ why. IsRefused why c.give_header.result c.args.out.now c.give_header.new.out × (c.give_header.new.store ≡ c.args.store.now))
    c.in-Ok.ensures c.give_header.ensures)

pub returns-in-Err : goal.returns-in-Err
returns-in-Err c =
    at_second _ _ _ c.in-Some.now c.in-Some.ensures (inr (c.in-Err.why, c.in-Err.ensures, (record { told = c.refusal-in-Err.ensures; kept = refl }, refl)))
