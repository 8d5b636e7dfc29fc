use Rattle.std.proofs.Common.{[], ◌++◌, map, ap, ◌∙◌, append_assoc}
use Rattle.std.specs.List.{concat}
use Rattle.std.proofs.lemmas.List.{take_more, take_all, map-append, append-nil}
use Rattle.std.proofs.lemmas.List.Folds.{concat-append}
use Rattle.sha2.specs.Sha256.{sha256}
use Rattle.cookie_crypt.specs.Hmac.{masked, hmac_short}
use Rattle.cookie_crypt.proofs.mac.code.Goals as goal

pub loop-piece-preserved : goal.loop-piece-preserved
loop-piece-preserved c = λ key begun.
    rw (take_more c.args.pieces.now c.loop-piece.piece-index (record { ref_ptr = (0, 0); now = [] }) c.loop-piece-test.true, map-append, concat-append, append-nil, ← append_assoc)
    (c.update.ensures _ (c.loop-piece.invariant key begun))

pub returns : goal.returns
unfolding hmac_short
returns c = λ key begun outer.
    c.finalize-2.ensures _ (c.update-2.ensures _ outer)
    ∙ ap (λ d. sha256 (masked key 0x5c ++ d))
    (c.finalize.ensures _ (c.loop-piece.invariant key begun)
    ∙ ap (λ ps. sha256 (masked key 0x36 ++ concat (map (λ piece. piece.now) ps))) (take_all c.loop-piece.piece-index c.args.pieces.now c.loop-piece-test.false))
