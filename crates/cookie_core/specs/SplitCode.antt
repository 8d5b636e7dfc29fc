-- Mirrors private code: what a splitter's own types mean.
use Rattle.std.specs.Prelude.{◌≡◌, ℕ, Bool, true, false, List, [], ◌∷◌, Option, Some, None, option_map, IfSome, string_bytes}
use Rattle.std.specs.Arc.{arc_value}
use Rattle.cookie_core.specs.Header.{header_texts}
use Rattle.cookie_core.specs.Pieces.{Lacks}
use Rattle.cookie_core.specs.Separators.{semicolon}
use Rattle.cookie_core.specs.Spans.{StandsIn, span_text}
use Rattle.cookie_core.specs.SplitCookies.{texts_left}
use Rattle.cookie_core.specs.declared.split.Header.{Header}
use Rattle.cookie_core.specs.declared.split.Header.TheVariants as header
use Rattle.cookie_core.specs.declared.span.Span.{Span}

-- the bytes of the header
abbrev pub header_bytes : Header → List ℕ
header_bytes (header.Plain text) = text.now
header_bytes (header.Encoded alloc text) = text.now
header_bytes (header.Owned alloc text) = string_bytes text
header_bytes (header.EncodedOwned alloc text) = string_bytes text
header_bytes (header.EncodedShared alloc text) = string_bytes (arc_value text)

-- whether its cookies are decoded
abbrev pub is_decoded : Header → Bool
is_decoded (header.Plain text) = false
is_decoded (header.Encoded alloc text) = true
is_decoded (header.Owned alloc text) = false
is_decoded (header.EncodedOwned alloc text) = true
is_decoded (header.EncodedShared alloc text) = true

-- whether its cookies get texts of their own
abbrev pub is_owned : Header → Bool
is_owned (header.Plain text) = false
is_owned (header.Encoded alloc text) = false
is_owned (header.Owned alloc text) = true
is_owned (header.EncodedOwned alloc text) = true
is_owned (header.EncodedShared alloc text) = true

-- the texts of the rest of the text
abbrev pub texts_in : List ℕ → Option Span → List (List ℕ)
texts_in text rest = texts_left (option_map (span_text text) rest)

-- the first text of the rest, which holds no `;`, and what stands after it
abbrev pub IsFirst : List ℕ → Span → Option (Span × Option Span) → Type 0
IsFirst text rest None = header_texts (span_text text rest) ≡ []
IsFirst text rest (Some found) =
    StandsIn text found.0 × IfSome found.1 (StandsIn text)
    × (header_texts (span_text text rest) ≡ span_text text found.0 ∷ texts_in text found.1)
    × Lacks semicolon (span_text text found.0)
