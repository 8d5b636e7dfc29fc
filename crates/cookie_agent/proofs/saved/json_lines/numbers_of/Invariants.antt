-- The numbers so far are the letters so far.
use Rattle.std.proofs.Common.{◌≡◌, take}
use Rattle.cookie_agent.proofs.saved.json_lines.numbers_of.Given as goal

abbrev pub invariant-loop-letter : goal.invariant-loop-letter
invariant-loop-letter l = l.numbers.items ≡ take l.letter-index l.letters
