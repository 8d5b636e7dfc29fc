use Rattle.std.proofs.Common.{ap}
use Rattle.cookie_core.specs.Record.{Record}
use Rattle.cookie.proofs.SealingLemmas.{sealed_shown}
use Rattle.cookie.proofs.secure.private.PrivateJarMut.add.Goals as goal

pub returns-clause-shown : goal.returns-clause-shown
returns-clause-shown g c =
    let (nonce, is_nonce, drawn, sealed) = c.in_ok-added.ensures.ok in
    sealed_shown _ c.args.cookie.fields c.in_ok-added.added.fields _ c.add.new.self c.add.result sealed.stands
    (ap (λ (made : Record). made.name) sealed.fields) c.add.ensures.gives
