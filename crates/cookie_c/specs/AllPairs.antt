-- All pairs of a header for C, decoded, in the caller's two buffers (RFC 6265 4.2.1, RFC 3986 2.1): `old` and `new` are the
-- pairs at the call and at the return, `before` and `after` the bytes.
use Rattle.std.specs.Prelude.{◌≡◌, ℕ, ◌+◌, ◌<◌, ◌≤◌, ◌⊎◌, List, [], ◌∷◌, ◌++◌, drop, length, IsUtf8, Option, Some, None, Err, true}
use Rattle.std.specs.Str.{trim}
use Rattle.cookie.specs.CookieOf.{cookie_of}
use Rattle.cookie.specs.Reads.{Reads}
use Rattle.cookie.specs.Record.{Record}
use Rattle.cookie.specs.declared.ParseError.{ParseError}
use Rattle.cookie_c.specs.Codes.{code_of, refusal_status}
use Rattle.cookie_c.specs.Pairs.{HeaderPiece, next_piece, refused_pair, rest_after}
use Rattle.cookie_c.specs.declared.all_pairs.PairCount.{PairCount}
use Rattle.cookie_c.specs.declared.all_pairs.decoded_pairs.DecodedPairs.{DecodedPairs}
use Rattle.cookie_c.specs.declared.pair.Pair.{Pair}
use Rattle.cookie_c.specs.declared.status.Status.{Status}
use Rattle.cookie_c.specs.declared.status.Status.TheVariants as status

-- the pair of a record whose name is at this offset of the bytes, and its value right after it
abbrev pub pair_at : ℕ → Record → ℕ → Pair
pair_at at r next =
    record {
      status = code_of status.Done;
      name = record { start = at; length = length r.name };
      value = record { start = at + length r.name; length = length r.value };
      next = next;
    }

-- the pair says why the piece is refused
abbrev pub RefusesPiece : HeaderPiece → Pair → Type 0
RefusesPiece piece pair =
    ((¬ IsUtf8 piece.bytes) × (pair ≡ refused_pair status.NotUtf8 (rest_after piece)))
    ⊎ (IsUtf8 piece.bytes × ((why : ParseError) × Reads true (trim piece.bytes) (Err why)
    × (pair ≡ refused_pair (refusal_status why) (rest_after piece))))

-- The pair is what the piece is read as, decoded, and the text, which is at this offset of the bytes, is its name and its
-- value. Or the piece is refused, and has no text.
abbrev pub IsPairAt : HeaderPiece → ℕ → Pair → List ℕ → Type 0
IsPairAt piece at pair text =
    (IsUtf8 piece.bytes × ((r : Record) × (cookie_of true (trim piece.bytes) ≡ Some r)
    × (pair ≡ pair_at at r (rest_after piece)) × (text ≡ r.name ++ r.value)))
    ⊎ (RefusesPiece piece pair × (text ≡ []))

-- The pairs are those of all pieces of the header that aren't skipped, from the first offset on, in their order, and the
-- text, which is at the second offset of the bytes, is theirs.
abbrev pub ArePairsFrom : List ℕ → ℕ → ℕ → List Pair → List ℕ → Type 0
ArePairsFrom header from at [] text = (next_piece header from ≡ None) × (text ≡ [])
ArePairsFrom header from at (pair ∷ later) text =
    (piece : HeaderPiece) × (next_piece header from ≡ Some piece)
    × ((own : List ℕ) × (rest : List ℕ) × (text ≡ own ++ rest) × IsPairAt piece at pair own
    × ArePairsFrom header (rest_after piece) (at + length own) later rest)

-- how many pairs and bytes there are
abbrev pub counted : Status → List Pair → List ℕ → PairCount
counted what pairs text =
    record { status = code_of what; count = length pairs; length = length text }

-- no pair is read for this reason, and nothing is written
abbrev pub AreUnread : Status → PairCount → List Pair → List Pair → List ℕ → List ℕ → Type 0
AreUnread why answer old new before after =
    (answer ≡ record { status = code_of why; count = 0; length = 0 }) × (new ≡ old)
    × (after ≡ before)

-- The pairs and the bytes are at the heads of the buffers, if both have room; else nothing is written. How many there are
-- is told either way.
pub record ArePairsGiven (pairs : List Pair) (text : List ℕ) (answer : PairCount)
    (old new : List Pair) (before after : List ℕ) : Type 0 where
  pub told : length pairs ≤ length old → length text ≤ length before
      → answer ≡ counted status.Done pairs text
  pub placed : length pairs ≤ length old → length text ≤ length before
      → new ≡ pairs ++ drop (length pairs) old
  pub written : length pairs ≤ length old → length text ≤ length before
      → after ≡ text ++ drop (length text) before
  pub short : (length old < length pairs) ⊎ (length before < length text)
      → (answer ≡ counted status.BufferTooShort pairs text) × (new ≡ old) × (after ≡ before)

-- all pairs of the header are given, or memory ran out
abbrev pub ReadsPairs : List ℕ → PairCount → List Pair → List Pair → List ℕ → List ℕ → Type 0
ReadsPairs header answer old new before after =
    ((pairs : List Pair) × (text : List ℕ) × ArePairsFrom header 0 0 pairs text
    × ArePairsGiven pairs text answer old new before after)
    ⊎ AreUnread status.OutOfMemory answer old new before after

-- ---- Mirrors private code (src/all_pairs/decoded_pairs.rt)

-- the piece's pair is added, with its text
abbrev pub TakesPiece : HeaderPiece → DecodedPairs → DecodedPairs → Type 0
TakesPiece piece old new =
    (pair : Pair) × (own : List ℕ) × IsPairAt piece (length old.text.items) pair own
    × (new.pairs.items ≡ old.pairs.items ++ pair ∷ [])
    × (new.text.items ≡ old.text.items ++ own)

-- the header's next piece from the offset on is taken in, and the result is where the rest begins; or there is none
abbrev pub TakesNext : List ℕ → ℕ → DecodedPairs → DecodedPairs → Option ℕ → Type 0
TakesNext header from old new None = (next_piece header from ≡ None) × (new ≡ old)
TakesNext header from old new (Some next) =
    (piece : HeaderPiece) × (next_piece header from ≡ Some piece) × (next ≡ rest_after piece)
    × TakesPiece piece old new

-- a pair with this name and this value is added, with its text
pub record AddsText (name value : List ℕ) (next : ℕ) (old new : DecodedPairs) : Type 0 where
  pub pairs : new.pairs.items ≡ old.pairs.items ++ record {
    status = code_of status.Done;
    name = record { start = length old.text.items; length = length name };
    value = record { start = length old.text.items + length name; length = length value };
    next = next;
  } ∷ []
  pub text : new.text.items ≡ old.text.items ++ (name ++ value)
