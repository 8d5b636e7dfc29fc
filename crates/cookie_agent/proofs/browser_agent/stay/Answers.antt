-- What is left is what the test finds.
use Rattle.std.proofs.Common.{◌||◌, not, rules}
use Rattle.std.proofs.lemmas.Fn.{filter_same}
use Rattle.cookie_agent.specs.Beyond.{DatedView, is_among, is_at_site}
use Rattle.cookie_agent.proofs.browser_agent.stay.Goals as goal

pub returns : goal.returns
returns c =
    filter_same _ (λ (d : DatedView). not (is_at_site c.args.suffixes.now c.args.host.now d) || is_among c.args.left.now d) _ (λ x b f h. search rules) _ _
    c.retain.ensures.filtered
