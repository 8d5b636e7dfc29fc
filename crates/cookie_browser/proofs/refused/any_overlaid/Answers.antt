use Rattle.std.proofs.Common.{sym, ◌∙◌}
use Rattle.cookie_browser.specs.Storage.{is_overlaid}
use Rattle.cookie_browser.specs.RefusedCode.{kept_view, request_view}
use Rattle.cookie_browser.proofs.AnyLemmas.{any-map}
use Rattle.cookie_browser.proofs.refused.any_overlaid.Goals as goal

pub returns : goal.returns
returns c = c.any_kept.ensures ∙ sym (any-map (is_overlaid (request_view c.args.request.now) (kept_view c.args.new.now)) kept_view c.args.store.now)
