-- Mirrors private code: what comes next in a header from an offset on (RFC 6265 4.2.1).
use Rattle.std.specs.Prelude.{◌≡◌, ◌<◌, ◌+◌, ℕ, List, length, IsUtf8, Some, None}
use Rattle.std.specs.Str.{trim}
use Rattle.cookie.specs.Pieces.{offset_of}
use Rattle.cookie.specs.Separators.{equals_sign}
use Rattle.cookie_c.specs.Pairs.{HeaderPiece, end_of, mark_of, next_piece, rest_after}
use Rattle.cookie_c.specs.Spans.{IsBetween}
use Rattle.cookie_c.specs.declared.next_piece.NextPiece.{NextPiece}
use Rattle.cookie_c.specs.declared.next_piece.NextPiece.TheVariants as piece

-- `text` is the piece, trimmed, at `start` in the header; its first `=`, if it has one, is the piece's
pub record IsTextOf (header : List ℕ) (p : HeaderPiece) (text : List ℕ) (start rest : ℕ)
    : Type 0 where
  pub trimmed : text ≡ trim p.bytes
  pub place : IsBetween header p.start (end_of p)
      (record { start = start; length = length text }) text
  pub mark : offset_of equals_sign text < length text
      → mark_of p ≡ start + offset_of equals_sign text
  pub next : rest ≡ rest_after p

-- the result is the next piece of the header from `from` on, or its end
abbrev pub IsNextPiece : List ℕ → ℕ → NextPiece → Type 0
IsNextPiece header from piece.End = next_piece header from ≡ None
IsNextPiece header from (piece.Other next) =
    (p : HeaderPiece) × (next_piece header from ≡ Some p) × (¬ (IsUtf8 p.bytes))
    × (next ≡ rest_after p)
IsNextPiece header from (piece.Text text start next) =
    (p : HeaderPiece) × (next_piece header from ≡ Some p) × IsUtf8 p.bytes
    × IsTextOf header p text.now start next
