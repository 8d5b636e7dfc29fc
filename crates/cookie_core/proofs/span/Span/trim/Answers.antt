use Rattle.std.proofs.Common.{◌≡◌, ◌+◌, ◌-◌, ℕ, List, length, sym, ap, subst, take_all, ◌∙◌, arith}
use Rattle.std.specs.Str.{trim, trim_end}
use Rattle.cookie_core.specs.Spans.{span_text}
use Rattle.cookie_core.specs.Trim.{IsTrimmed}
use Rattle.cookie_core.proofs.GraphicLemmas.{trimmed-graphic_ends}
use Rattle.cookie_core.proofs.SpanLemmas.{span, StandsIn-trimmed, slice_range-front, span_text-trimmed, white_before}
use Rattle.cookie_core.proofs.TrimLemmas.{exactly, trims, longest}
use Rattle.cookie_core.proofs.span.Span.trim.Goals as goal
use Rattle.cookie_core.proofs.span.Span.trim.Goals.{After-trim_end, Then-is_trimmed}

is_trim : (c : After-trim_end) → span_text c.args.text.now (span (length c.args.text.now - length c.trim_start-kept.result.now) (length c.args.text.now - length c.trim_start-kept.result.now + length c.trim_end.result.now)) ≡ trim c.args.text.now
is_trim c =
    span_text-trimmed c.args.text.now c.trim_start-kept.result.now c.trim_end.result.now c.trim_start-kept.ensures.value c.trim_end.ensures.value
    ∙ c.trim_end.ensures.trim
    ∙ ap trim_end c.trim_start-kept.ensures.trim

pub returns-clause-stands : goal.returns-clause-stands
returns-clause-stands c =
    StandsIn-trimmed c.args.text.now c.trim_start-kept.result.now c.trim_end.result.now c.trim_start-kept.ensures.value c.trim_start-kept.utf8 c.trim_end.ensures.value c.trim_end.utf8

pub returns-clause-before : goal.returns-clause-before
returns-clause-before c = white_before c.args.text.now c.trim_start-kept.result.now c.trim_start-kept.ensures.value

pub returns-clause-text : goal.returns-clause-text
returns-clause-text c = is_trim (goal.at.returns-clause-text c).After-trim_end

pub returns-clause-trimmed : goal.returns-clause-trimmed
returns-clause-trimmed c =
    subst (IsTrimmed c.args.text.now) (sym (is_trim (goal.at.returns-clause-trimmed c).After-trim_end)) (trims c.args.text.now c.utf8.text)

pub returns-clause-only : goal.returns-clause-only
returns-clause-only c part t =
    exactly c.args.text.now part t ∙ sym (is_trim (goal.at.returns-clause-only c).After-trim_end)

pub returns-clause-longest : goal.returns-clause-longest
returns-clause-longest c part bare =
    let is = is_trim (goal.at.returns-clause-longest c).After-trim_end in
    longest c.args.text.now _ part (subst (IsTrimmed c.args.text.now) (sym is) (trims c.args.text.now c.utf8.text)) bare

-- ---- a text with nothing to trim

whole_is : (text : List ℕ) → span_text text (span 0 (length text)) ≡ text
whole_is text = slice_range-front text (length text) ∙ take_all (length text) text (omega arith)

has_nothing : (c : Then-is_trimmed) → IsTrimmed c.args.text.now c.args.text.now
has_nothing c =
    trimmed-graphic_ends c.args.text.now c.utf8.text (rw c.as_bytes.ensures.value at c.is_trimmed.ensures c.if-is_trimmed.true)

pub returns-then-is_trimmed-clause-text : goal.returns-then-is_trimmed-clause-text
returns-then-is_trimmed-clause-text c = whole_is c.args.text.now ∙ exactly c.args.text.now c.args.text.now (has_nothing c)

pub returns-then-is_trimmed-clause-trimmed : goal.returns-then-is_trimmed-clause-trimmed
returns-then-is_trimmed-clause-trimmed c = subst (IsTrimmed c.args.text.now) (sym (whole_is c.args.text.now)) (has_nothing c)

pub returns-then-is_trimmed-clause-only : goal.returns-then-is_trimmed-clause-only
returns-then-is_trimmed-clause-only c part t =
    let text = c.args.text.now in
    exactly text part t ∙ sym (exactly text text (has_nothing c)) ∙ sym (whole_is text)
