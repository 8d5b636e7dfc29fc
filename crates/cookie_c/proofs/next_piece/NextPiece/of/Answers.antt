use Rattle.std.proofs.Common.{◌+◌, ap, sym, ◌∙◌}
use Rattle.cookie_c.proofs.PairLemmas.{this_piece, end-this_piece, other_piece, next_text, none_behind, blank_piece, hidden_piece}
use Rattle.cookie_c.proofs.next_piece.NextPiece.of.Goals as goal
use Rattle.cookie_c.proofs.next_piece.NextPiece.of.Goals.{else-span-via-then-span+else-is_named_as_sent, else-span-via-else-span}

pub returns-in_default : goal.returns-in_default
returns-in_default c =
    let h = c.args.header.now in
    let start = c.loop-start.start in
    let end = c.piece_end-end.result in
    let piece = c.piece_end-end.ensures in (
      this_piece h start end piece.forward piece.within piece.apart piece.mark,
      c.loop-start.invariant ∙ other_piece h start end piece.forward piece.within piece.apart piece.mark c.in_default.ensures.cases.0,
      c.in_default.ensures.cases.0,
      ap (λ n. n + 1) (end-this_piece h start end piece.forward piece.within piece.apart piece.mark),
    )

pub returns-then-is_named_as_sent : goal.returns-then-is_named_as_sent
returns-then-is_named_as_sent c =
    let h = c.args.header.now in
    let start = c.loop-start.start in
    let end = c.piece_end-end.result in
    let piece = c.piece_end-end.ensures in
    let span = c.trim-span.result in
    let trimmed = c.trim-span.ensures in
    let (same, utf8) = c.in-Ok.ensures.cases in
    let named = sym c.is_named_as_sent.ensures.named ∙ c.if-is_named_as_sent.true in
    let next = next_text h start end piece.forward piece.within piece.apart piece.mark c.in-Ok.piece.now span.start span.end same utf8 trimmed.text trimmed.before trimmed.stands.2.0 c.range-text.result.now c.range-text.ensures.value c.if-span.true named in (
      this_piece h start end piece.forward piece.within piece.apart piece.mark,
      c.loop-start.invariant ∙ next.0,
      utf8,
      next.1,
    )

pub loop-start-preserved : goal.loop-start-preserved
loop-start-preserved c =
    let h = c.args.header.now in
    let start = c.loop-start.start in
    let end = c.piece_end-end.result in
    let piece = c.piece_end-end.ensures in
    let span = c.trim-span.result in
    let trimmed = c.trim-span.ensures in
    let (same, utf8) = c.in-Ok.ensures.cases in
    c.loop-start.invariant ∙ elim c.else-span.branch [
      | else-span-via-then-span+else-is_named_as_sent w ↦
          hidden_piece h start end piece.forward piece.within piece.apart piece.mark c.in-Ok.piece.now span.start span.end same utf8 trimmed.text trimmed.before trimmed.stands.2.0
          (sym w.is_named_as_sent.ensures.named ∙ w.if-is_named_as_sent.false)
      | else-span-via-else-span w ↦
          blank_piece h start end piece.forward piece.within piece.apart piece.mark c.in-Ok.piece.now span.start span.end same utf8 trimmed.text trimmed.before trimmed.stands.2.0
          trimmed.stands.0 w.if-span.false
    ]

pub returns : goal.returns
returns c = c.loop-start.invariant ∙ none_behind c.args.header.now c.loop-start.start c.loop-start-test.false
