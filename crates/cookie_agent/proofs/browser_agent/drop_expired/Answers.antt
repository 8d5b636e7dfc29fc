-- What is left is what lasts.
use Rattle.std.proofs.Common.{rules}
use Rattle.std.proofs.lemmas.Fn.{filter_same}
use Rattle.cookie_browser.specs.Storage.{lasts}
use Rattle.cookie_agent.proofs.browser_agent.drop_expired.Goals as goal

pub returns : goal.returns
returns c = filter_same _ (λ d. lasts d.kept.expiry c.args.now) _ (λ x b f h. search rules) _ _ c.retain.ensures.filtered
