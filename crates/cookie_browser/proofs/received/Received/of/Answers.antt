use Rattle.cookie_browser.proofs.PrintedLemmas.{received_printed}
use Rattle.cookie_browser.proofs.received.Received.of.Goals as goal

pub returns-then-has_control-clause-printed : goal.returns-then-has_control-clause-printed
returns-then-has_control-clause-printed c = received_printed

pub returns-then-name-value-gt-MOST_BYTES-clause-printed : goal.returns-then-name-value-gt-MOST_BYTES-clause-printed
returns-then-name-value-gt-MOST_BYTES-clause-printed c = received_printed

pub returns-clause-printed : goal.returns-clause-printed
returns-clause-printed c = received_printed
