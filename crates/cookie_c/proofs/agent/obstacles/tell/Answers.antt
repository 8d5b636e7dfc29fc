use Rattle.std.proofs.Common.{◌≡◌, inl, inr, slice_get}
use Rattle.cookie_c.specs.Obstacles.{TellsObstacles, no_obstacles}
use Rattle.cookie_c.proofs.AgentLemmas.{seen_told}
use Rattle.cookie_c.proofs.SiteLemmas.{at_second}
use Rattle.cookie_c.proofs.agent.obstacles.tell.Goals as goal

pub returns-in-Ok : goal.returns-in-Ok
returns-in-Ok c =
    at_second _ _ _ c.in-Some.now c.in-Some.ensures
    (seen_told c.args.request.now c.in-Ok.site
    (λ site. TellsObstacles site c.in-Some.now (slice_get c.args.store.now c.args.index) c.tell_found.result)
    (λ why. c.tell_found.result ≡ no_obstacles why)
    c.in-Ok.ensures (inl c.tell_found.ensures))

pub returns-in-Err : goal.returns-in-Err
returns-in-Err c =
    at_second _ _ _ c.in-Some.now c.in-Some.ensures (inr (c.in-Err.why, c.in-Err.ensures, c.none-in-Err.ensures))
