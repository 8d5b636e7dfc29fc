use Rattle.std.proofs.Common.{◌≡◌, refl, ◌∙◌}
use Rattle.cookie_core.specs.Spans.{span_text}
use Rattle.cookie_core.specs.SplitCode.{header_bytes}
use Rattle.cookie_core.proofs.PieceLemmas.{IsHeaderTexts-header_texts, header_texts-count}
use Rattle.cookie_core.proofs.SpanLemmas.{StandsIn-part, span_text-part}
use Rattle.cookie_core.proofs.split.SplitCookies.over.Goals as goal
use Rattle.cookie_core.proofs.split.SplitCookies.over.Goals.{After-all}

whole : (c : After-all) → span_text (header_bytes c.args.header) c.all.result.span ≡ header_bytes c.args.header
whole c =
    span_text-part (header_bytes c.args.header) c.all.result (c.all.ensures.place ∙ c.text.ensures) ∙ c.all.ensures.text ∙ c.text.ensures

pub invariant_of-result : goal.invariant_of-result
invariant_of-result c = StandsIn-part (header_bytes c.args.header) c.all.result (c.all.ensures.place ∙ c.text.ensures)

pub returns-clause-texts : goal.returns-clause-texts
returns-clause-texts c =
    rw (whole (goal.at.returns-clause-texts c).After-all) (IsHeaderTexts-header_texts (header_bytes c.args.header))

pub returns-clause-value : goal.returns-clause-value
returns-clause-value c = rw (whole (goal.at.returns-clause-value c).After-all) refl

pub returns-clause-count : goal.returns-clause-count
returns-clause-count c =
    rw (whole (goal.at.returns-clause-count c).After-all) (header_texts-count (header_bytes c.args.header))
