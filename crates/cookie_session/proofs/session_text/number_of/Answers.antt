use Rattle.std.proofs.Common.{fold, ap, arith, ◌∙◌}
use Rattle.std.proofs.lemmas.List.{take_all}
use Rattle.cookie_session.proofs.DigitLemmas.{fold-decimal, with_digit}
use Rattle.cookie_session.proofs.session_text.number_of.Goals as goal

pub returns : goal.returns
returns c number small shown =
    c.loop-digit.invariant ∙ ap (fold with_digit 0) (take_all c.loop-digit.digit-index c.args.text.now (omega arith) ∙ shown) ∙ fold-decimal number small
