use Rattle.std.proofs.Common.{false}
use Rattle.cookie_core.proofs.CookieOfLemmas.{cookie_of-Reads, cookie_of-result}
use Rattle.cookie_core.proofs.cookie.Cookie.parse.Goals as goal

pub returns-clause-value : goal.returns-clause-value
returns-clause-value c = cookie_of-result false c.args.text.now _ c.read.ensures.reads

pub returns-clause-agrees : goal.returns-clause-agrees
returns-clause-agrees c = cookie_of-Reads false c.args.text.now
