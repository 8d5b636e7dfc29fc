use Rattle.std.proofs.Common.{◌≡◌, find, option_copied}
use Rattle.cookie_browser.specs.Suffixes.{endings, is_registrable}
use Rattle.cookie_browser.proofs.CutLemmas.{left_length}
use Rattle.cookie_browser.proofs.EndingLemmas.{endings_left}
use Rattle.cookie_browser.proofs.suffixes.Suffixes.registrable.Given as goal

abbrev pub invariant-loop-rest : goal.invariant-loop-rest
invariant-loop-rest l =
    find (is_registrable l.self) (endings_left (option_copied l.rest))
    ≡ find (is_registrable l.self) (endings l.domain)

abbrev pub decreases-loop-rest : goal.decreases-loop-rest
decreases-loop-rest l = left_length (option_copied l.rest)
