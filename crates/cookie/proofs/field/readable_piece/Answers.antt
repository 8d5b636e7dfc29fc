use Rattle.std.proofs.Common.{◌≡◌, true, false, cond, Some, None, ap, sym, ◌∙◌}
use Rattle.cookie_core.specs.SentNames.{is_named_as_sent}
use Rattle.cookie.proofs.FieldLemmas.{piece_readable, piece_unreadable}
use Rattle.cookie.proofs.field.readable_piece.Goals as goal

pub returns-then-is_named_as_sent : goal.returns-then-is_named_as_sent
returns-then-is_named_as_sent c =
    let (same, utf8) = c.in-Ok.ensures.cases in
    let named : true ≡ is_named_as_sent c.args.piece.now = sym c.if-is_named_as_sent.true ∙ c.is_named_as_sent.ensures.named ∙ ap is_named_as_sent same in
    ap Some same ∙ ap (λ b. cond b (Some c.args.piece.now) None) (piece_readable c.args.piece.now true utf8 named)

pub returns-else-is_named_as_sent : goal.returns-else-is_named_as_sent
returns-else-is_named_as_sent c =
    let (same, utf8) = c.in-Ok.ensures.cases in
    let named : false ≡ is_named_as_sent c.args.piece.now = sym c.if-is_named_as_sent.false ∙ c.is_named_as_sent.ensures.named ∙ ap is_named_as_sent same in
    ap (λ b. cond b (Some c.args.piece.now) None) (piece_readable c.args.piece.now false utf8 named)

pub returns-in-Err : goal.returns-in-Err
returns-in-Err c = ap (λ b. cond b (Some c.args.piece.now) None) (sym (piece_unreadable c.args.piece.now c.in-Err.ensures.cases.0))
