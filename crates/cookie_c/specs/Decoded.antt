-- Names and values without their escapes, in the caller's buffer (RFC 6265 5.2, RFC 3986 2.1): `old` is the buffer at
-- the call and `new` at the return.
use Rattle.std.specs.Prelude.{◌≡◌, ℕ, ◌⊎◌, List, ◌++◌, length, Some, Err, true}
use Rattle.std.specs.Str.{trim}
use Rattle.cookie.specs.CookieOf.{cookie_of}
use Rattle.cookie.specs.Decoding.{ReadsInMemory, IsCertain}
use Rattle.cookie.specs.Record.{Record}
use Rattle.cookie.specs.declared.ParseError.{ParseError}
use Rattle.cookie_c.specs.Answers.{IsGiven}
use Rattle.cookie_c.specs.Codes.{refusal_status}
use Rattle.cookie_c.specs.Numbers.{numbers_of}
use Rattle.cookie_c.specs.Pairs.{HeaderPiece, refused_pair, rest_after}
use Rattle.cookie_c.specs.Spans.{IsOptionalAt}
use Rattle.cookie_c.specs.Readings.{refused_reading}
use Rattle.cookie_c.specs.declared.pair.Pair.{Pair}
use Rattle.cookie_c.specs.declared.span.Span.{Span}
use Rattle.cookie_c.specs.declared.reading.Reading.{Reading}
use Rattle.cookie_c.specs.declared.status.Status.{Status}

-- the text is refused for this with decoding; memory can be wanting, but only where there is an escape
abbrev pub IsDecodingRefusal : List ℕ → ParseError → Type 0
IsDecodingRefusal text why =
    ReadsInMemory true text (Err why) × IsCertain {C = Record} text (Err why)

-- The name and the value stand at the head of the buffer, the value right after the name, where both have room; else
-- nothing is written. Their spans are told either way.
pub record AreGiven (first second : List ℕ) (code : ℕ) (name_span value_span : Span)
    (old new : List ℕ) : Type 0 where
  pub texts : IsGiven (first ++ second)
      (record { status = code; length = length (first ++ second) }) old new
  pub name : name_span ≡ record { start = 0; length = length first }
  pub value : value_span ≡ record { start = length first; length = length second }

-- the record's name and value are given, and the rest of the header begins there
pub record GivesPair (r : Record) (rest : ℕ) (answer : Pair) (old new : List ℕ) : Type 0 where
  pub pair : AreGiven r.name r.value answer.status answer.name answer.value old new
  pub next : answer.next ≡ rest

-- the same two are given, the path and the domain stand at the answer's spans in the text, and the attributes have the
-- answer's numbers
pub record GivesCookie (text : List ℕ) (r : Record) (answer : Reading) (old new : List ℕ)
    : Type 0 where
  pub pair : AreGiven r.name r.value answer.status answer.name answer.value old new
  pub path : IsOptionalAt text answer.path r.path
  pub domain : IsOptionalAt text answer.domain r.domain
  pub attributes : answer.attributes ≡ numbers_of r

-- there is no pair, and nothing is written
abbrev pub IsRefusedPair : Status → ℕ → Pair → List ℕ → List ℕ → Type 0
IsRefusedPair why next answer old new = (answer ≡ refused_pair why next) × (new ≡ old)

-- there is no cookie, and nothing is written
abbrev pub IsRefusedReading : Status → Reading → List ℕ → List ℕ → Type 0
IsRefusedReading why answer old new = (answer ≡ refused_reading why) × (new ≡ old)

-- the answer is what the text is read as, decoded, or tells why it is refused
abbrev pub IsDecodedReadingOf : List ℕ → Reading → List ℕ → List ℕ → Type 0
IsDecodedReadingOf text answer old new =
    ((r : Record) × (cookie_of true text ≡ Some r) × GivesCookie text r answer old new)
    ⊎ ((why : ParseError) × IsDecodingRefusal text why
    × IsRefusedReading (refusal_status why) answer old new)

-- `IsDecodedReadingOf` for a piece of a header, trimmed
abbrev pub IsDecodedPairOf : HeaderPiece → Pair → List ℕ → List ℕ → Type 0
IsDecodedPairOf piece answer old new =
    ((r : Record) × (cookie_of true (trim piece.bytes) ≡ Some r)
    × GivesPair r (rest_after piece) answer old new)
    ⊎ ((why : ParseError) × IsDecodingRefusal (trim piece.bytes) why
    × IsRefusedPair (refusal_status why) (rest_after piece) answer old new)
