-- Spans of a text of the caller's.
use Rattle.std.specs.Prelude.{◌≡◌, ℕ, ◌+◌, ◌-◌, ◌≤◌, List, drop, take, length, Option, Some, None}
use Rattle.cookie.specs.declared.Span.{Span as Part}
use Rattle.cookie_c.specs.declared.span.Span.{Span}

-- the part is the text of the span
abbrev pub IsAt : List ℕ → Span → List ℕ → Type 0
IsAt text span part =
    (span.start + span.length ≤ length text) × (take span.length (drop span.start text) ≡ part)

-- the part is the text of the span, which lies between these two offsets
pub record IsBetween (text : List ℕ) (first last : ℕ) (span : Span) (part : List ℕ)
    : Type 0 where
  pub bytes : IsAt text span part
  pub begins : first ≤ span.start
  pub ends : span.start + span.length ≤ last

-- the span of no text
abbrev pub no_span : Span
no_span = record { start = 0; length = 0 }

-- the span of a part of a text that is after this many bytes
abbrev pub span_after : ℕ → Part → Span
span_after start part = record { start = start + part.start; length = part.end - part.start }

-- the part, if there is one, is the text of the span
abbrev pub IsOptionalAt : List ℕ → Span → Option (List ℕ) → Type 0
IsOptionalAt text span None = span ≡ no_span
IsOptionalAt text span (Some part) = IsAt text span part
