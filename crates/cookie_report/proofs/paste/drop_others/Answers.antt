-- The closure answers whether a line counts, and so what is left is the filtered list.
use Rattle.std.proofs.Common.{rules}
use Rattle.std.proofs.lemmas.Fn.{filter_same}
use Rattle.cookie_report.specs.Paste.{counts}
use Rattle.cookie_report.proofs.paste.drop_others.Goals as goal

pub returns : goal.returns
returns c = filter_same _ (counts c.args.has_fields) _ (λ x b f h. search rules) _ _ c.retain.ensures.filtered
