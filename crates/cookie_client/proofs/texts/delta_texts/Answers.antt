use Rattle.std.proofs.Common.{string_bytes, map}
use Rattle.std.proofs.lemmas.List.Sorted.{IsPermutation-map}
use Rattle.std.proofs.lemmas.Result.{IfOk-weaker}
use Rattle.cookie.proofs.DeltaTextLemmas.{AreDeltaTexts-once, AreDeltaTextsOnce-moved}
use Rattle.cookie_client.proofs.texts.delta_texts.Goals as goal

pub returns-clause-once : goal.returns-clause-once
returns-clause-once c =
    IfOk-weaker c.reorder.result _ _ (λ ordered moved.
    AreDeltaTextsOnce-moved c.args.jar.now.delta _ _ (IsPermutation-map string_bytes _ _ moved) c.in_ok-texts.ensures) c.reorder.ensures

pub returns-clause-each : goal.returns-clause-each
returns-clause-each c =
    IfOk-weaker c.reorder.result _ _ (λ ordered once. AreDeltaTexts-once c.args.jar.now.delta (map string_bytes ordered.items) once) (returns-clause-once c)
