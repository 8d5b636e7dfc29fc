use Rattle.std.proofs.Common.{◌≡◌, ◌-◌}
use Rattle.cookie_date.specs.Names.{month_text}
use Rattle.cookie_date.specs.Reader.{read_name}
use Rattle.cookie_date.proofs.reader.read_month.Given as goal

-- no name before this one stands at the front
abbrev pub invariant-loop-month : goal.invariant-loop-month
invariant-loop-month l = read_name month_text 12 1 l.text ≡ read_name month_text (13 - l.month) l.month l.text
