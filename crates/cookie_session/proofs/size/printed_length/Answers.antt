use Rattle.std.proofs.Common.{◌≡◌, ◌+◌, ◌<◌, cond, length, take, get_or, ap, subst, ◌∙◌, arith}
use Rattle.cookie.specs.Escapes.{escape, is_escaped}
use Rattle.cookie.proofs.EscapeLengthLemmas.{length-escape_more, length-escape_none}
use Rattle.cookie_session.proofs.size.printed_length.Goals as goal
use Rattle.cookie_session.proofs.size.printed_length.Goals.{then-is_escaped, else-is_escaped}

pub loop-byte-init : goal.loop-byte-init
loop-byte-init c = record { counted = length-escape_none c.args.text.now; low = omega arith }

pub loop-byte-preserved : goal.loop-byte-preserved
loop-byte-preserved c =
    let text = c.args.text.now in
    let i = c.loop-byte.byte-index in
    let items : c.as_bytes-byte-items.result.now ≡ text = c.as_bytes-byte-items.ensures.value in
    let test : c.is_escaped.result ≡ is_escaped (get_or text i 0) = c.is_escaped.ensures ∙ ap (λ bytes. is_escaped (get_or bytes i 0)) items in
    let below : i < length text = subst (λ bytes. i < length bytes) items c.loop-byte-test.true in
    let more = length-escape_more text i c.is_escaped.result below test in
    elim c.if-is_escaped.branch [
      | then-is_escaped w ↦
          let three = subst (λ t. length (escape (take (i + 1) text)) ≡ length (escape (take i text)) + cond t 3 1) w.if-is_escaped.true more in
          record { counted = omega (arith, w.count-is, three, c.loop-byte.invariant.counted); low = omega (arith, w.count-is, c.loop-byte.invariant.low) }
      | else-is_escaped w ↦
          let one = subst (λ t. length (escape (take (i + 1) text)) ≡ length (escape (take i text)) + cond t 3 1) w.if-is_escaped.false more in
          record { counted = omega (arith, w.count-is, one, c.loop-byte.invariant.counted); low = omega (arith, w.count-is, c.loop-byte.invariant.low) }
    ]
