use Rattle.cookie_core.proofs.DotLemmas.{without_leading_dot-same}
use Rattle.cookie_core.proofs.cookie.after_dot.Goals as goal

pub returns-in-None : goal.returns-in-None
unfolding lib.Utf8.encode
returns-in-None c = without_leading_dot-same _ c.in-None.ensures.cases
