use Rattle.cookie_core.proofs.ExpiryLemmas.{last_expiry-is}
use Rattle.cookie_core.proofs.expiration.last_expiry.Goals as goal

pub returns : goal.returns
returns c = last_expiry-is c.datetime.result c.datetime.ensures.date c.datetime.ensures.time
