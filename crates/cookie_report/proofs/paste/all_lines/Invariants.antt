-- What was read, and what is still to be read, is all.
use Rattle.std.proofs.Common.{◌≡◌, ◌++◌, map, option_copied}
use Rattle.cookie_browser.proofs.CutLemmas.{left_length, pieces_at}
use Rattle.cookie_report.specs.Paste.{all_lines, line_of}
use Rattle.cookie_report.proofs.paste.all_lines.Given as goal

abbrev pub invariant-loop-rest : goal.invariant-loop-rest
invariant-loop-rest l =
    l.lines.items ++ map line_of (pieces_at 10 (option_copied l.rest)) ≡ all_lines l.paste

abbrev pub decreases-loop-rest : goal.decreases-loop-rest
decreases-loop-rest l = left_length (option_copied l.rest)
