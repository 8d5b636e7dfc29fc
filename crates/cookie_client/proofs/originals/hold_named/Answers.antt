use Rattle.std.proofs.Common.{sym, ap, ◌∙◌}
use Rattle.cookie_client.specs.Calls.{asked_of_child, stored_by}
use Rattle.cookie_client.proofs.OriginalLemmas.{holds_added}
use Rattle.cookie_client.proofs.originals.hold_named.Goals as goal

pub returns-in-AddOriginal : goal.returns-in-AddOriginal
returns-in-AddOriginal c handling keeps =
    let cookie = c.in-AddOriginal.cookie.fields in
    holds_added c.hold_original.result (handling.stored cookie) (stored_by handling (asked_of_child c.args.call.now)) c.args.jar.now c.name.result.now c.args.client.now c.hold_original.new.client
    (ap (λ call. stored_by handling (asked_of_child call)) c.in-AddOriginal.is) (c.name.ensures ∙ sym (keeps cookie)) c.hold_original.ensures
