use Rattle.std.proofs.Common.{rules, codes}
use Rattle.cookie.specs.Keys.{encryption_half}
use Rattle.cookie_examples.proofs.ShownLemmas.{sealed-added}
use Rattle.cookie_examples.proofs.session.sign_in.Goals as goal

pub returns-clause-ok : goal.returns-clause-ok
returns-clause-ok g c =
    let (nonce, is_nonce, drawn, added) = c.in_ok-add.ensures.outcome.ok in
    sealed-added (encryption_half c.args.key.now) nonce c.args.user.now c.args.jar.now _ c.in_ok-into_owned.field-0.fields (codes "session")
    is_nonce c.in_ok-add.ensures.outcome.within c.utf8.user (search rules) (search rules) (search rules)
