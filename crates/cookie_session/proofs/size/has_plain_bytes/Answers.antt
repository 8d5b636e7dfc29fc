use Rattle.std.proofs.Common.{◌≡◌, ◌+◌, ◌<◌, false, length, get_or, sym, ap, subst, ◌∙◌}
use Rattle.std.proofs.lemmas.Bool.{and_parts}
use Rattle.cookie.specs.Escapes.{is_escaped}
use Rattle.cookie.proofs.EscapeLengthLemmas.{length-escape_more, length-escape_none}
use Rattle.cookie_session.proofs.size.has_plain_bytes.Goals as goal

pub loop-byte-init : goal.loop-byte-init
loop-byte-init c same = sym (length-escape_none c.args.text.now)

pub loop-byte-preserved : goal.loop-byte-preserved
loop-byte-preserved c are =
    let text = c.args.text.now in
    let i = c.loop-byte.byte-index in
    let items : c.as_bytes-byte-items.result.now ≡ text = c.as_bytes-byte-items.ensures.value in
    let both = and_parts c.loop-byte.are_plain c.is_plain-are_plain.result are in
    let kept : is_escaped (get_or text i 0) ≡ false = ap (λ bytes. is_escaped (get_or bytes i 0)) (sym items) ∙ c.is_plain-are_plain.ensures both.1 in
    let below : i < length text = subst (λ bytes. i < length bytes) items c.loop-byte-test.true in
    length-escape_more text i false below (sym kept) ∙ ap (λ n. n + 1) (c.loop-byte.invariant both.0)
