-- A cookie that was read for C: the spans of its texts, and its attributes as numbers (RFC 6265 5.2).
use Rattle.std.specs.Prelude.{◌≡◌, ℕ, ◌+◌, ◌⊎◌, List, Some, Err, false}
use Rattle.cookie.specs.CookieOf.{cookie_of}
use Rattle.cookie.specs.Pieces.{offset_of}
use Rattle.cookie.specs.Reads.{Reads}
use Rattle.cookie.specs.Record.{Record}
use Rattle.cookie.specs.Separators.{equals_sign, semicolon}
use Rattle.cookie.specs.declared.ParseError.{ParseError}
use Rattle.cookie_c.specs.Codes.{code_of, refusal_status}
use Rattle.cookie_c.specs.Numbers.{numbers_of, no_numbers}
use Rattle.cookie_c.specs.Spans.{IsBetween, IsOptionalAt, no_span}
use Rattle.cookie_c.specs.declared.reading.Reading.{Reading}
use Rattle.cookie_c.specs.declared.status.Status.{Status}
use Rattle.cookie_c.specs.declared.status.Status.TheVariants as status

-- the answer of a call that has no cookie
abbrev pub refused_reading : Status → Reading
refused_reading why =
    record {
      status = code_of why;
      name = no_span;
      value = no_span;
      path = no_span;
      domain = no_span;
      attributes = no_numbers;
    }

-- the record's texts stand at the answer's spans in the text, the name before the first `=` and the value between it
-- and the first `;`, and its attributes have the answer's numbers
pub record ShowsCookie (text : List ℕ) (r : Record) (answer : Reading) : Type 0 where
  pub status : answer.status ≡ code_of status.Done
  pub name : IsBetween text 0 (offset_of equals_sign text) answer.name r.name
  pub value : IsBetween text (offset_of equals_sign text + 1) (offset_of semicolon text)
      answer.value r.value
  pub path : IsOptionalAt text answer.path r.path
  pub domain : IsOptionalAt text answer.domain r.domain
  pub attributes : answer.attributes ≡ numbers_of r

-- the answer is what the text is read as, or tells why it is refused
abbrev pub IsReadingOf : List ℕ → Reading → Type 0
IsReadingOf text answer =
    ((r : Record) × (cookie_of false text ≡ Some r) × ShowsCookie text r answer)
    ⊎ ((why : ParseError) × Reads false text (Err why)
    × (answer ≡ refused_reading (refusal_status why)))
