use Rattle.cookie.proofs.SigningLemmas.{signed_shown}
use Rattle.cookie.proofs.secure.signer.SignerStoring.to_add.Goals as goal

pub returns-in_err-value-clause-shown : goal.returns-in_err-value-clause-shown
returns-in_err-value-clause-shown c = λ jar. signed_shown c.args.self.now c.args.cookie.fields jar

pub returns-clause-shown : goal.returns-clause-shown
returns-clause-shown c = λ jar. signed_shown c.args.self.now c.args.cookie.fields jar
