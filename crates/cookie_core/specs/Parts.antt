-- Mirrors private code: parts of a text.
use Rattle.std.specs.Prelude.{◌≡◌, ◌+◌, ℕ, List, Option, Some, None, IfSome}
use Rattle.cookie_core.specs.Spans.{span_text}
use Rattle.cookie_core.specs.declared.part.Part.{Part}
use Rattle.cookie_core.specs.declared.span.Span.{Span}

-- the bytes of the part
abbrev pub part_text : Part → List ℕ
part_text part = span_text part.whole.now part.span

-- it is a part of the text
abbrev pub IsPartOf : List ℕ → Part → Type 0
IsPartOf text part = part.whole.now ≡ text

-- if there is a part, it is a part of the text
abbrev pub IsOptionalPartOf : List ℕ → Option Part → Type 0
IsOptionalPartOf text part = IfSome part (IsPartOf text)

-- the span is cut in two at a byte, or stays whole
abbrev pub IsCut : Span → Span → Option Part → Type 0
IsCut whole first None = first ≡ whole
IsCut whole first (Some after) =
    (first.start ≡ whole.start) × (after.span.start ≡ first.end + 1)
    × (after.span.end ≡ whole.end)
