use Rattle.cookie_core.specs.Same.{same-is_equality}
use Rattle.cookie_core.proofs.same.CookiePartialEq.eq.Goals as goal

pub returns-then-eq-6-clause-equality : goal.returns-then-eq-6-clause-equality
returns-then-eq-6-clause-equality c = same-is_equality

pub returns-else-eq-6-clause-equality : goal.returns-else-eq-6-clause-equality
returns-else-eq-6-clause-equality c = same-is_equality
