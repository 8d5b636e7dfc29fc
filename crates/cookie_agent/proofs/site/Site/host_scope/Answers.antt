use Rattle.cookie_agent.proofs.PrefixLemmas.{all_host_bound, all_secured}
use Rattle.cookie_agent.proofs.site.Site.host_scope.Goals as goal

pub returns-clause-host_bound : goal.returns-clause-host_bound
returns-clause-host_bound c rules = all_host_bound rules c.args.self.now

pub returns-clause-secured : goal.returns-clause-secured
returns-clause-secured c = all_secured
