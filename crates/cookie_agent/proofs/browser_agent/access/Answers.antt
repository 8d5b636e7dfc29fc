use Rattle.std.proofs.Common.{rules}
use Rattle.std.proofs.lemmas.List.Edits.{map_over_more}
use Rattle.cookie_agent.specs.Beyond.{accessed_beyond}
use Rattle.cookie_agent.proofs.browser_agent.access.Goals as goal

pub loop-cookie-preserved : goal.loop-cookie-preserved
loop-cookie-preserved c = search (rules, map_over_more (accessed_beyond c.args.choices c.args.site.now c.args.top.now c.args.now))
