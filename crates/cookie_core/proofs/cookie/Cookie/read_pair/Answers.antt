use Rattle.std.proofs.Common.{false}
use Rattle.cookie_core.proofs.CookieOfLemmas.{cookie_of-result}
use Rattle.cookie_core.proofs.cookie.Cookie.read_pair.Goals as goal

pub returns-clause-value : goal.returns-clause-value
returns-clause-value c = cookie_of-result false c.args.text.now _ c.of_layout.ensures.reads
