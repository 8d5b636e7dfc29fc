use Rattle.std.proofs.Common.{◌≡◌, ◌++◌, None, map, ap, sym, ◌∙◌}
use Rattle.std.specs.List.{flat_map, position}
use Rattle.cookie_core.specs.Pieces.{pieces}
use Rattle.cookie.specs.FieldPieces.{cookies_of_piece}
use Rattle.cookie.proofs.FieldLemmas.{cookies_last, cookies_left, field_cookies-pieces, is_mark}
use Rattle.cookie.proofs.field.field_cookies.Goals as goal

pub loop-end-init : goal.loop-end-init
loop-end-init c =
    ap (λ cookies. map (λ c. c.fields) cookies ++ flat_map cookies_of_piece (pieces c.args.field.now)) c.new-cookies.ensures.items
    ∙ sym (field_cookies-pieces c.args.field.now)

pub loop-end-preserved : goal.loop-end-preserved
loop-end-preserved c =
    cookies_left c.loop-end.rest.now c.in-Some.end (map (λ c. c.fields) c.loop-end.cookies.items) (map (λ c. c.fields) c.push_piece.new.cookies.items) _
    (sym c.in-Some.ensures.found) c.in_ok-push_piece.ensures c.loop-end.invariant

pub returns : goal.returns
returns c =
    let none : position is_mark c.loop-end.rest.now ≡ None = cc in
    c.in_ok-push_piece-2.ensures ∙ cookies_last c.loop-end.rest.now (map (λ c. c.fields) c.loop-end.cookies.items) _ none c.loop-end.invariant
