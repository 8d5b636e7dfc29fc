use Rattle.std.proofs.Common.{◌≡◌, ◌+◌, true, false, ◌&&◌, None, Some, drop, take, position, ap, rules, sym, ◌∙◌}
use Rattle.std.specs.List.{list_all}
use Rattle.cookie_core.specs.BareNames.{is_plain_byte}
use Rattle.cookie_core.specs.Pieces.{pieces}
use Rattle.cookie_core.specs.SentNames.{is_named_as_sent}
use Rattle.cookie.proofs.FieldLemmas.{is_mark, named-found, named-whole, piece_boundaries, plain_header}
use Rattle.cookie.proofs.header.are_named_as_sent.Goals as goal

pub returns-then-is_plain : goal.returns-then-is_plain
returns-then-is_plain c =
    sym (plain_header c.args.header.now (ap (list_all is_plain_byte) (sym c.as_bytes.ensures.value) ∙ sym c.is_plain.ensures ∙ c.if-is_plain.true))

pub range-requires-clause-end_boundary : goal.range-requires-clause-end_boundary
range-requires-clause-end_boundary c =
    let found : position is_mark c.loop-end.rest.now ≡ Some c.in-Some.end = search rules in
    (piece_boundaries c.loop-end.rest.now c.in-Some.end c.loop-end.invariant.text found).0

pub range_from-rest-requires : goal.range_from-rest-requires
range_from-rest-requires c =
    let found : position is_mark c.loop-end.rest.now ≡ Some c.in-Some.end = search rules in
    λ _. (piece_boundaries c.loop-end.rest.now c.in-Some.end c.loop-end.invariant.text found).1

pub returns-then-not-is_named_as_sent : goal.returns-then-not-is_named_as_sent
returns-then-not-is_named_as_sent c =
    let rest = c.loop-end.rest.now in
    let end = c.in-Some.end in
    let found : position is_mark rest ≡ Some end = search rules in
    let piece : take end rest ≡ c.range.result.now = search rules in
    let here : is_named_as_sent (take end rest) ≡ false = ap is_named_as_sent piece ∙ sym c.is_named_as_sent.ensures.named ∙ c.if-not-is_named_as_sent.true in
    sym (sym c.loop-end.invariant.decide ∙ named-found rest end found ∙ ap (λ b. b && list_all is_named_as_sent (pieces (drop (end + 1) rest))) here)

pub loop-end-preserved : goal.loop-end-preserved
loop-end-preserved c =
    let rest = c.loop-end.rest.now in
    let end = c.in-Some.end in
    let found : position is_mark rest ≡ Some end = search rules in
    let piece : take end rest ≡ c.range.result.now = search rules in
    let after : drop (end + 1) rest ≡ c.range_from-rest.result.now = search rules in
    let here : is_named_as_sent (take end rest) ≡ true = ap is_named_as_sent piece ∙ sym c.is_named_as_sent.ensures.named ∙ c.if-not-is_named_as_sent.false in
    record {
      decide = ap (λ t. list_all is_named_as_sent (pieces t)) (sym after)
          ∙ sym (named-found rest end found ∙ ap (λ b. b && list_all is_named_as_sent (pieces (drop (end + 1) rest))) here)
          ∙ c.loop-end.invariant.decide;
      text = c.range_from-rest.utf8;
    }

pub returns : goal.returns
returns c =
    let rest = c.loop-end.rest.now in
    let none : position is_mark rest ≡ None = search rules in
    c.is_named_as_sent-2.ensures.named ∙ sym (named-whole rest none) ∙ c.loop-end.invariant.decide
