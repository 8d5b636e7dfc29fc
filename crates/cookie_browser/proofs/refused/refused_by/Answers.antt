use Rattle.std.proofs.Common.{map}
use Rattle.cookie_browser.specs.RefusedCode.{kept_view}
use Rattle.cookie_browser.proofs.AcceptLemmas.{printed_is_stored}
use Rattle.cookie_browser.proofs.SentLemmas.{printed_is_sent}
use Rattle.cookie_browser.proofs.refused.refused_by.Goals as goal

pub returns-clause-value : goal.returns-clause-value
returns-clause-value c = c.refused_with.ensures (map kept_view c.args.store.now) c.overlays-overlays.ensures

pub returns-clause-printed : goal.returns-clause-printed
returns-clause-printed c = printed_is_stored

pub returns-clause-sent : goal.returns-clause-sent
returns-clause-sent c = printed_is_sent
