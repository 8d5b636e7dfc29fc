-- With the standard's choices it does what the standard says.
use Rattle.cookie_agent.proofs.BeyondLemmas.{reads_standard}
use Rattle.cookie_agent.proofs.browser_agent.BrowserAgent.read.Goals as goal

pub returns-in_err-cookie-clause-standard : goal.returns-in_err-cookie-clause-standard
returns-in_err-cookie-clause-standard c = reads_standard

pub returns-in_err-put-in-Ok-clause-standard : goal.returns-in_err-put-in-Ok-clause-standard
returns-in_err-put-in-Ok-clause-standard c = reads_standard

pub returns-in_ok-put-in-Ok-clause-standard : goal.returns-in_ok-put-in-Ok-clause-standard
returns-in_ok-put-in-Ok-clause-standard c = reads_standard

pub returns-in-Err-clause-standard : goal.returns-in-Err-clause-standard
returns-in-Err-clause-standard c = reads_standard
