use Rattle.std.proofs.Common.{◌≡◌, ◌-◌}
use Rattle.cookie_date.specs.Names.{weekday_text}
use Rattle.cookie_date.specs.Reader.{read_name}
use Rattle.cookie_date.proofs.reader.read_weekday.Given as goal

-- no name before this one stands at the front
abbrev pub invariant-loop-weekday : goal.invariant-loop-weekday
invariant-loop-weekday l = read_name weekday_text 7 0 l.text ≡ read_name weekday_text (7 - l.weekday) l.weekday l.text
