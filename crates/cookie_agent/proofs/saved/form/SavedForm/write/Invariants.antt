-- What is written, and what is still to be written, is all.
use Rattle.std.proofs.Common.{◌≡◌, ◌+◌, ◌++◌, length}
use Rattle.cookie_agent.specs.SavedForms.{saved_text}
use Rattle.cookie_agent.specs.SavedFormsCode.{left_out_from, lines_text}
use Rattle.cookie_agent.proofs.saved.form.SavedForm.write.Given as goal

abbrev pub invariant-loop-place : goal.invariant-loop-place
invariant-loop-place l = record {
  rest : l.place + length l.cookies ≡ length l.initial.cookies;
  text : l.saved.text.items ++ lines_text l.self l.now l.cookies ≡ saved_text l.self l.now l.initial.cookies;
  left : l.saved.left_out.items ++ left_out_from l.self l.place l.now l.cookies ≡ left_out_from l.self 0 l.now l.initial.cookies;
}
