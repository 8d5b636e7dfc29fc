use Rattle.std.proofs.Common.{◌++◌, List, drop, string_bytes}
use Rattle.std.specs.FinMap.{empty}
use Rattle.cookie_client.specs.Client.{Values}
use Rattle.cookie_client.specs.Rounds.{AreRounds}
use Rattle.cookie_client.specs.ExchangeCode.{IsHeaderOf}
use Rattle.cookie_client.specs.declared.exchange.Played.{Played}
use Rattle.cookie_client.proofs.requests.rounds.Given as goal

-- the header is that of the client so far, and whatever completes the rounds from there on completes all
abbrev pub invariant-loop-request : goal.invariant-loop-request
invariant-loop-request l =
    (client : Values) × IsHeaderOf client (string_bytes l.header)
    × ((rest : List Played) → AreRounds l.now client (drop l.request-index l.requests) rest → AreRounds l.now empty l.requests (l.played.items ++ rest))
