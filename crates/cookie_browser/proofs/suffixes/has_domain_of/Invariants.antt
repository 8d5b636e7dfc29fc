use Rattle.std.proofs.Common.{◌≡◌, false, option_copied}
use Rattle.std.specs.List.{list_any}
use Rattle.cookie_browser.specs.Request.{is_in_domain}
use Rattle.cookie_browser.specs.SuffixCode.{texts_of}
use Rattle.cookie_browser.proofs.CutLemmas.{left_length}
use Rattle.cookie_browser.proofs.DomainLemmas.{rest_in}
use Rattle.cookie_browser.proofs.suffixes.has_domain_of.Given as goal

abbrev pub invariant-loop-rest : goal.invariant-loop-rest
invariant-loop-rest l =
    list_any (rest_in (option_copied l.rest)) (texts_of l.texts.keys)
    ≡ list_any (is_in_domain l.domain false) (texts_of l.texts.keys)

abbrev pub decreases-loop-rest : goal.decreases-loop-rest
decreases-loop-rest l = left_length (option_copied l.rest)
