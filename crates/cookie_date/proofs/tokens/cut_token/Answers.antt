use Rattle.std.proofs.Common.{rules, tests}
use Rattle.std.proofs.lemmas.List.{take_rest}
use Rattle.cookie_date.proofs.TokenLemmas.{cut-at_first, cut-nowhere}
use Rattle.cookie_date.proofs.tokens.cut_token.Goals as goal

pub returns-in-Some : goal.returns-in-Some
returns-in-Some c =
    let found = cut-at_first c.args.text.now c.in-Some.at (search rules) (search (rules, tests)) (search (rules, tests)) in
    record { before = rw found; after = rw (found, take_rest) }

pub returns-in-None : goal.returns-in-None
returns-in-None c =
    let none = cut-nowhere c.args.text.now (search (rules, tests)) in
    record { before = rw none; after = rw none }
