use Rattle.cookie_core.proofs.CopyLemmas.{is_cookie}
use Rattle.cookie_core.proofs.cookie.Cookie.name_value.Goals as goal

pub returns-clause-cookie : goal.returns-clause-cookie
returns-clause-cookie c = is_cookie c.self.inside c.args.self.now c.self.view_is c.self.invariant
