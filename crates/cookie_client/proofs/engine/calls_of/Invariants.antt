use Rattle.std.proofs.Common.{◌≡◌, ◌+◌, ◌++◌, ◌<◌, ◌^◌, length, map}
use Rattle.std.specs.Result.{result_map_both}
use Rattle.cookie_client.specs.Calls.{change_of}
use Rattle.cookie_client.specs.Session.{changes_in}
use Rattle.cookie_client.proofs.engine.calls_of.Given as goal

-- the changes so far, and those of the lines that are left, are the changes of all lines
abbrev pub invariant-loop-line : goal.invariant-loop-line
invariant-loop-line l = record {
  asked : result_map_both (λ changes. map change_of l.calls.items ++ changes) (λ fault. fault) (changes_in l.now (l.number + 1) l.lines) ≡ changes_in l.now 2 l.fn.lines;
  room : l.number + length l.lines < 2 ^ 64;
}

abbrev pub decreases-loop-line : goal.decreases-loop-line
decreases-loop-line l = length l.lines
