use Rattle.std.proofs.Common.{length, ◌-◌, take, ◌≤◌}
use Rattle.std.specs.Io.KnownBytes.{Appends}
use Rattle.cookie_client.proofs.streams.write_text.Given as goal

-- what was written is the text so far
abbrev pub invariant-loop-written : goal.invariant-loop-written
invariant-loop-written g l =
    let contents = g.W.Write.contents in
    record {
      within : l.written ≤ length l.text;
      so_far : Appends (contents l.fn.output) (contents l.output) (take l.written l.text);
    }

abbrev pub decreases-loop-written : goal.decreases-loop-written
decreases-loop-written g l = length l.text - l.written
