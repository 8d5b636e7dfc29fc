use Rattle.cookie.proofs.PurposeLemmas.{apart}
use Rattle.cookie.proofs.secure.sealer.Sealer.seal_for.Goals as goal

pub returns-then-not-is_sealable_for-clause-apart : goal.returns-then-not-is_sealable_for-clause-apart
returns-then-not-is_sealable_for-clause-apart g c = apart c.args.purpose.now c.args.name.now c.utf8.purpose

pub returns-in_err-nonce-clause-apart : goal.returns-in_err-nonce-clause-apart
returns-in_err-nonce-clause-apart g c = apart c.args.purpose.now c.args.name.now c.utf8.purpose

pub returns-in_err-text_for-clause-apart : goal.returns-in_err-text_for-clause-apart
returns-in_err-text_for-clause-apart g c = apart c.args.purpose.now c.args.name.now c.utf8.purpose

pub returns-clause-apart : goal.returns-clause-apart
returns-clause-apart g c = apart c.args.purpose.now c.args.name.now c.utf8.purpose
