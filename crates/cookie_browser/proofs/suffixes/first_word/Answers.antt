use Rattle.std.proofs.Common.{length, take, sym, ap, ◌∙◌, rules, arith}
use Rattle.std.specs.Char.{is_ascii_whitespace}
use Rattle.std.proofs.Common.{take_all}
use Rattle.std.proofs.lemmas.List.Sums.{position_or_len_is}
use Rattle.cookie_browser.proofs.suffixes.first_word.Goals as goal

pub returns-in-Some : goal.returns-in-Some
returns-in-Some c =
    let line = c.args.line.now in
    sym (ap (λ n. take n line) (position_or_len_is is_ascii_whitespace line c.in-Some.end 0 (search rules) (search rules) (λ _. search rules)))

pub returns-in-None : goal.returns-in-None
returns-in-None c =
    let line = c.args.line.now in
    sym (ap (λ n. take n line) (position_or_len_is is_ascii_whitespace line (length line) 0 (omega arith) (search rules) (λ h. absurd (omega arith))) ∙ take_all (length line) line (omega arith))
