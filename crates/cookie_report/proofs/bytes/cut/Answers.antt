use Rattle.std.proofs.Common.{rules}
use Rattle.std.proofs.lemmas.List.{take_rest}
use Rattle.cookie_browser.proofs.CutLemmas.{cut-at_first, cut-nowhere}
use Rattle.cookie_report.proofs.bytes.cut.Goals as goal

pub returns-in-Some : goal.returns-in-Some
returns-in-Some c =
    let found = cut-at_first c.args.mark c.args.text.now c.in-Some.at (search rules) (search rules) (search rules) in
    record { before = rw found; after = rw (found, take_rest) }

pub returns-in-None : goal.returns-in-None
returns-in-None c =
    let none = cut-nowhere c.args.mark c.args.text.now (search rules) in
    record { before = rw none; after = rw none }
