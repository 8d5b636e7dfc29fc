-- A law of the agent's header.
use Rattle.cookie_agent.proofs.HostJarLemmas.{own_set}
use Rattle.cookie_c.proofs.agent.send.cookie_agent_header.Goals as goal

pub returns-clause-own_set : goal.returns-clause-own_set
returns-clause-own_set c = own_set
