use Rattle.std.proofs.Common.{option_copied, sym, ap, ◌∙◌}
use Rattle.std.specs.Prelude.{fold}
use Rattle.cookie_browser.specs.Bytes.{cut}
use Rattle.cookie_browser.specs.Received.{pieces_after, with_piece}
use Rattle.cookie_browser.specs.ReceivedCode.{attributes_view}
use Rattle.cookie_browser.proofs.CutLemmas.{rest-shorter, pieces-first}
use Rattle.cookie_browser.proofs.attributes.ReceivedAttributes.read.Goals as goal

pub loop-rest-smaller : goal.loop-rest-smaller
loop-rest-smaller c = rest-shorter 59 c.in-Some.text.now _ _ (ap option_copied c.in-Some.is) c.cut.ensures.after

pub loop-rest-preserved : goal.loop-rest-preserved
loop-rest-preserved c =
    let t = c.in-Some.text.now in
    let a = attributes_view c.loop-rest.attributes in
    ap (λ s. fold with_piece s (pieces_after (option_copied c.cut.result.1))) (c.take_piece.ensures ∙ ap (with_piece a) c.cut.ensures.before)
    ∙ ap (λ o. fold with_piece (with_piece a (cut 59 t).0) (pieces_after o)) c.cut.ensures.after
    ∙ sym (ap (fold with_piece a) (pieces-first t))
    ∙ sym (ap (λ o. fold with_piece a (pieces_after (option_copied o))) c.in-Some.is)
    ∙ c.loop-rest.invariant
