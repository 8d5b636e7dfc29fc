use Rattle.std.proofs.Common.{false, string_bytes}
use Rattle.cookie_core.proofs.CookieOfLemmas.{cookie_of-result}
use Rattle.cookie_core.proofs.cookie.Cookie.parse_owned.Goals as goal

pub returns-clause-value : goal.returns-clause-value
returns-clause-value c = cookie_of-result false (string_bytes c.args.text) _ c.read.ensures.reads
