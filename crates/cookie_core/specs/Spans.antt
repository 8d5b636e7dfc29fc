-- Where a part of a UTF-8 text stands (RFC 3629 3).
use Rattle.std.specs.Prelude.{ℕ, ◌≤◌, List, slice_range, IsCharBoundary}
use Rattle.cookie_core.specs.declared.span.Span.{Span}

-- the span stands in the text, and cuts no character
abbrev pub StandsIn : List ℕ → Span → Type 0
StandsIn text span =
    (span.start ≤ span.end) × IsCharBoundary text span.start × IsCharBoundary text span.end

-- the bytes of the span in the text
abbrev pub span_text : List ℕ → Span → List ℕ
span_text text span = slice_range text span.start span.end
