-- What is written, with what the rest adds, is the whole.
use Rattle.std.proofs.Common.{◌≡◌, ◌++◌, map, drop}
use Rattle.cookie.specs.Header.{joined_texts, more_joined}
use Rattle.cookie_agent.specs.Sent.{sent_pair}
use Rattle.cookie_agent.specs.SentCode.{targets}
use Rattle.cookie_agent.proofs.header.joined_pairs.Given as goal

abbrev pub invariant-loop-cookie : goal.invariant-loop-cookie
invariant-loop-cookie l =
    l.header.items ++ more_joined (map sent_pair (targets (drop l.cookie-index l.rest))) ≡ joined_texts (map sent_pair (targets l.cookies))
