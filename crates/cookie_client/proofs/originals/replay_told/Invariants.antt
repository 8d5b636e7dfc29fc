use Rattle.std.proofs.Common.{◌≡◌, ◌≤◌, List, Bool, ◌++◌, drop, length, vec_capacity}
use Rattle.std.specs.List.{AllZip}
use Rattle.cookie.specs.History.{after_all, originals_of}
use Rattle.cookie_client.specs.Calls.{IsOutcome, changes_of}
use Rattle.cookie_client.specs.Originals.{holding}
use Rattle.cookie_client.proofs.originals.replay_told.Given as goal

-- any outcomes of the calls that are left complete the outcomes so far
abbrev pub invariant-loop-call : goal.invariant-loop-call
invariant-loop-call l =
    record {
      count : length l.outcomes.items ≡ l.call-index;
      room : length l.calls ≤ vec_capacity l.outcomes;
      told : (rest : List Bool) → AllZip IsOutcome (drop l.call-index l.calls) rest → AllZip IsOutcome l.calls (l.outcomes.items ++ rest);
      jar : (rest : List Bool) → after_all (changes_of rest (drop l.call-index l.calls)) l.jar ≡ after_all (changes_of (l.outcomes.items ++ rest) l.calls) l.fn.jar;
      client : (rest : List Bool) → holding (originals_of (changes_of rest (drop l.call-index l.calls))) l.client
          ≡ holding (originals_of (changes_of (l.outcomes.items ++ rest) l.calls)) l.fn.client;
    }
