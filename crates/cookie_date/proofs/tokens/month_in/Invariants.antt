use Rattle.std.proofs.Common.{◌≡◌, ◌-◌}
use Rattle.cookie_date.specs.CookieDate.{month_from}
use Rattle.cookie_date.proofs.tokens.month_in.Given as goal

-- no name before this one stands at the front
abbrev pub invariant-loop-month : goal.invariant-loop-month
invariant-loop-month l = month_from 12 1 l.token ≡ month_from (13 - l.month) l.month l.token
