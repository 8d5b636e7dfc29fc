-- As many are left as there are full slots.
use Rattle.std.proofs.Common.{length, ap, ◌∙◌}
use Rattle.cookie_browser.specs.Storage.{CookieStore}
use Rattle.cookie_agent.proofs.SlotLemmas.{held-count}
use Rattle.cookie_agent.proofs.cookies.CookiesExactSizeIterator.len.Goals as goal

pub returns-clause-value : goal.returns-clause-value
returns-clause-value c = c.count_full.ensures ∙ held-count c.self.inside.slots.now ∙ ap (λ (s : CookieStore). length s) c.self.view_is
