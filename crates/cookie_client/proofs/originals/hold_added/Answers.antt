use Rattle.std.proofs.Common.{ap}
use Rattle.cookie_client.specs.Calls.{change_of}
use Rattle.cookie_client.proofs.OriginalLemmas.{holds_added}
use Rattle.cookie_client.proofs.originals.hold_added.Goals as goal

pub returns-in-AddOriginal : goal.returns-in-AddOriginal
returns-in-AddOriginal c =
    holds_added c.hold_original.result c.in-AddOriginal.cookie.fields (change_of c.args.call.now) c.args.jar.now c.name.result.now c.args.client.now c.hold_original.new.client
    (ap change_of c.in-AddOriginal.is) c.name.ensures c.hold_original.ensures
