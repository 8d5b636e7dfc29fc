use Rattle.std.proofs.Common.{sym, ap, subst, ◌∙◌}
use Rattle.cookie.proofs.DotLemmas.{without_leading_dot-same}
use Rattle.cookie.specs.Record.{without_leading_dot}
use Rattle.cookie_c.specs.Spans.{IsAt}
use Rattle.cookie_c.proofs.ReadingLemmas.{span_is_at}
use Rattle.cookie_c.proofs.reading.span_after_dot.Goals as goal

pub returns-in-None : goal.returns-in-None
unfolding lib.Utf8.encode
returns-in-None c =
    let same = without_leading_dot-same c.range-domain.result.now c.in-None.ensures.cases in
    let value = c.range-domain.ensures.value in
    subst (λ t. IsAt c.args.text.now c.after.result t) (sym value ∙ same ∙ ap without_leading_dot value) (span_is_at c.args.text.now c.args.part c.after.result c.after.ensures c.requires)
