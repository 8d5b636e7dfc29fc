use Rattle.std.proofs.Common.{◌≡◌, inr, refl}
use Rattle.cookie_c.specs.Agents.{ReadsText, unread}
use Rattle.cookie_c.proofs.AgentLemmas.{seen_told}
use Rattle.cookie_c.proofs.SiteLemmas.{at_second}
use Rattle.cookie_c.proofs.agent.read.read_response.Goals as goal

pub returns-in-Ok : goal.returns-in-Ok
returns-in-Ok c =
    at_second _ _ _ c.in-Some.now c.in-Some.ensures
    (seen_told c.args.request.now c.in-Ok.site
    (λ site. ReadsText (record { rules = c.args.rules.now; cookies = c.args.store.now }) site c.in-Some.now c.args.text.now c.read.result c.read.new.store)
    (λ why. (c.read.result ≡ unread why) × (c.read.new.store ≡ c.args.store.now)) c.in-Ok.ensures c.read.ensures)

pub returns-in-Err : goal.returns-in-Err
returns-in-Err c = at_second _ _ _ c.in-Some.now c.in-Some.ensures (inr (c.in-Err.why, c.in-Err.ensures, (c.none-in-Err.ensures, refl)))
