use Rattle.std.proofs.Common.{◌≡◌, option_copied}
use Rattle.std.specs.Prelude.{fold}
use Rattle.cookie_browser.specs.Received.{attributes_of, pieces_after, with_piece}
use Rattle.cookie_browser.specs.ReceivedCode.{attributes_view}
use Rattle.cookie_browser.proofs.CutLemmas.{left_length}
use Rattle.cookie_browser.proofs.attributes.ReceivedAttributes.read.Given as goal

abbrev pub invariant-loop-rest : goal.invariant-loop-rest
invariant-loop-rest l = fold with_piece (attributes_view l.attributes) (pieces_after (option_copied l.rest)) ≡ attributes_of (option_copied l.fn.rest)

abbrev pub decreases-loop-rest : goal.decreases-loop-rest
decreases-loop-rest l = left_length (option_copied l.rest)
