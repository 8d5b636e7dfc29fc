use Rattle.std.proofs.Common.{◌≡◌, fold, take}
use Rattle.cookie_session.proofs.DigitLemmas.{with_digit}
use Rattle.cookie_session.proofs.session_text.number_of.Given as goal

-- what the digits so far give
abbrev pub invariant-loop-digit : goal.invariant-loop-digit
invariant-loop-digit l = l.number ≡ fold with_digit 0 (take l.digit-index l.text)
