-- The pairs of a header for C, and how far they were read (RFC 6265 4.2.1). A header is bytes here: whether a piece is
-- UTF-8 is tested before it is trimmed and read, since only a text has white space and a name.
use Rattle.std.specs.Prelude.{◌≡◌, ℕ, ◌+◌, ◌&&◌, ◌||◌, ◌==◌, ◌⊎◌, not, Bool, List, [], ◌∷◌, length, drop, Option, Some, None, Err, false, if◌then◌else◌}
use Rattle.std.specs.Str.{is_utf8, trim}
use Rattle.cookie.specs.CookieOf.{cookie_of}
use Rattle.cookie.specs.Pieces.{offset_of, pieces}
use Rattle.cookie.specs.Reads.{Reads}
use Rattle.cookie.specs.Record.{Record}
use Rattle.cookie.specs.SentNames.{is_named_as_sent}
use Rattle.cookie.specs.Separators.{equals_sign}
use Rattle.cookie.specs.declared.ParseError.{ParseError}
use Rattle.cookie_c.specs.Codes.{code_of, refusal_status}
use Rattle.cookie_c.specs.Spans.{IsBetween, no_span}
use Rattle.cookie_c.specs.declared.pair.Pair.{Pair}
use Rattle.cookie_c.specs.declared.status.Status.{Status}
use Rattle.cookie_c.specs.declared.status.Status.TheVariants as status

-- a piece of a header, up to a semicolon or the header's end, and the offset of its first byte
pub record HeaderPiece : Type 0 where
  pub start : ℕ
  pub bytes : List ℕ

-- the offset of the byte after the piece
abbrev pub end_of : HeaderPiece → ℕ
end_of piece = piece.start + length piece.bytes

-- the offset of the piece's first `=`, or its end
abbrev pub mark_of : HeaderPiece → ℕ
mark_of piece = piece.start + offset_of equals_sign piece.bytes

-- where the rest of the header begins: after the piece and its semicolon
abbrev pub rest_after : HeaderPiece → ℕ
rest_after piece = end_of piece + 1

-- the bytes are white space only
abbrev pub is_blank : List ℕ → Bool
is_blank bytes = length (trim bytes) == 0

-- the bytes are UTF-8, and are blank or aren't read under the name that was sent (RFC 6265bis, Cookie Name Prefixes)
abbrev pub is_skipped : List ℕ → Bool
is_skipped bytes = is_utf8 bytes && (is_blank bytes || not (is_named_as_sent bytes))

-- the first piece that isn't skipped of these, which follow one another from this offset on
abbrev pub next_in : ℕ → List (List ℕ) → Option HeaderPiece
next_in start [] = None
next_in start (bytes ∷ later) =
    if is_skipped bytes then next_in (start + length bytes + 1) later
    else Some (record { start = start; bytes = bytes })

-- the header's first piece that isn't skipped, from this offset on
unfoldable pub next_piece : List ℕ → ℕ → Option HeaderPiece
next_piece header from = next_in from (pieces (drop from header))

-- the answer of a call that has no pair, with the offset of the rest
abbrev pub refused_pair : Status → ℕ → Pair
refused_pair why next =
    record { status = code_of why; name = no_span; value = no_span; next = next }

-- the name and the value of the record stand at the pair's spans, the name before the piece's first `=` and the value
-- after it
pub record ShowsPair (header : List ℕ) (piece : HeaderPiece) (r : Record) (answer : Pair)
    : Type 0 where
  pub status : answer.status ≡ code_of status.Done
  pub name : IsBetween header piece.start (mark_of piece) answer.name r.name
  pub value : IsBetween header (mark_of piece + 1) (end_of piece) answer.value r.value
  pub next : answer.next ≡ rest_after piece

-- the pair is what this piece of the header is read as, trimmed, or tells why it is refused
abbrev pub IsPairOf : List ℕ → HeaderPiece → Pair → Type 0
IsPairOf header piece answer =
    ((r : Record) × (cookie_of false (trim piece.bytes) ≡ Some r)
    × ShowsPair header piece r answer)
    ⊎ ((why : ParseError) × Reads false (trim piece.bytes) (Err why)
    × (answer ≡ refused_pair (refusal_status why) (rest_after piece)))
