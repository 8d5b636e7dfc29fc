use Rattle.std.proofs.Common.{◌≡◌, ◌||◌, Bool, option_copied}
use Rattle.std.specs.List.{list_any}
use Rattle.cookie_browser.specs.Suffixes.{Rule}
use Rattle.cookie_browser.specs.SuffixList.{rules_of}
use Rattle.cookie_browser.proofs.CutLemmas.{left_length}
use Rattle.cookie_browser.proofs.SuffixLemmas.{rules_after}
use Rattle.cookie_browser.proofs.suffixes.Suffixes.new.Given as goal

abbrev pub invariant-loop-rest : goal.invariant-loop-rest
invariant-loop-rest l =
    (test : Rule → Bool) → (list_any test l.suffixes || list_any test (rules_after (option_copied l.rest))) ≡ list_any test (rules_of l.list)

abbrev pub decreases-loop-rest : goal.decreases-loop-rest
decreases-loop-rest l = left_length (option_copied l.rest)
