use Rattle.std.proofs.Common.{ap, ◌∙◌}
use Rattle.cookie.specs.Jar.{JarState, view}
use Rattle.cookie_theorems.proofs.carrying.carry.Goals as goal

pub returns-clause-carried : goal.returns-clause-carried
returns-clause-carried c =
    record {
      response = c.in_ok-response.ensures.ok;
      reads = c.in_ok-read_response.ensures.gives;
      request = c.in_ok-request.ensures.request;
      arrived = c.in_ok-next.ensures;
    }

pub returns-clause-shows : goal.returns-clause-shows
returns-clause-shows c unnamed name = ap (λ (j : JarState). view j name) c.in_ok-next.ensures ∙ c.in_ok-request.ensures.shows unnamed name
