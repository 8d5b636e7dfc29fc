-- The laws on histories.
use Rattle.cookie_agent.proofs.HostJarLemmas.{last_own, own_originals, own_set}
use Rattle.cookie_agent.proofs.HostLemmas.{only_own}
use Rattle.cookie_agent.proofs.agent.Agent.header.Goals as goal

pub returns-clause-only_own : goal.returns-clause-only_own
returns-clause-only_own c = only_own

pub returns-clause-own_originals : goal.returns-clause-own_originals
returns-clause-own_originals c = own_originals

pub returns-clause-last_own : goal.returns-clause-last_own
returns-clause-last_own c = last_own

pub returns-clause-own_set : goal.returns-clause-own_set
returns-clause-own_set c = own_set
