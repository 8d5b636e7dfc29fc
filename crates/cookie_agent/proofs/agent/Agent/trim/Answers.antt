-- The agent's rules and cookies are those of its fields.
use Rattle.std.proofs.Common.{OnOk, subst}
use Rattle.cookie_agent.specs.Sites.{TrimsApart}
use Rattle.cookie_agent.specs.Store.{AgentView}
use Rattle.cookie_agent.proofs.agent.Agent.trim.Goals as goal

pub returns-clause-apart : goal.returns-clause-apart
returns-clause-apart c =
    subst (λ (a : AgentView). OnOk c.trim.result (TrimsApart a.rules c.args.limits c.args.now a.cookies c.trim.new.self)) c.self.view_is c.trim.ensures.apart
