-- What is read, and what is still to be read, is all.
use Rattle.std.proofs.Common.{◌≡◌, ◌++◌, ◌+◌, drop}
use Rattle.cookie_agent.specs.Saved.{cookies_of, is_bad, places_of}
use Rattle.cookie_agent.specs.SavedFormsCode.{lines_taken_of}
use Rattle.cookie_agent.proofs.saved.form.SavedForm.read_all.Given as goal

abbrev pub invariant-loop-place : goal.invariant-loop-place
invariant-loop-place l = record {
  cookies : l.loaded.cookies.items ++ cookies_of (lines_taken_of l.self l.suffixes l.now (drop l.place l.lines)) ≡ cookies_of (lines_taken_of l.self l.suffixes l.now l.lines);
  bad_lines : l.loaded.bad_lines.items ++ places_of is_bad (l.place + 1) (lines_taken_of l.self l.suffixes l.now (drop l.place l.lines)) ≡ places_of is_bad 1 (lines_taken_of l.self l.suffixes l.now l.lines);
}
