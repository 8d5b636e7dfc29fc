use Rattle.cookie.proofs.SigningLemmas.{covers_one_pair}
use Rattle.cookie.proofs.secure.signed.SignedJar.verify.Goals as goal

pub returns-in_err-read-clause-one_pair : goal.returns-in_err-read-clause-one_pair
returns-in_err-read-clause-one_pair c = covers_one_pair

pub returns-clause-one_pair : goal.returns-clause-one_pair
returns-clause-one_pair c = covers_one_pair
